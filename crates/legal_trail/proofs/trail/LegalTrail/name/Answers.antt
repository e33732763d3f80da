use Rattle.std.proofs.Common.{[], ◌∷◌, ◌++◌, length, ap}
use Rattle.std.specs.Option.{option_map}
use Rattle.desk_trail.specs.declared.entry.Entry.TheVariants as entry_of
use Rattle.desk_trail.specs.Clients.{Client}
use Rattle.desk_trail.specs.Facts.{Lists}
use Rattle.desk_trail.specs.Facts as fact
use Rattle.desk_trail.specs.Written.{a_name}
use Rattle.legal_trail.proofs.AppendLemmas.{Adds-written, Extends-names, IsLegal-written, Longer, slice_get-behind}
use Rattle.legal_trail.proofs.trail.LegalTrail.name.Goals as goal

pub invariant_of-self : goal.invariant_of-self
invariant_of-self c =
    let client : Client = record { settings = c.self.inside.settings; commands = c.self.inside.commands; began = c.self.inside.began } in
    let old = c.self.inside.writer in
    let lists : Lists = record old.lists { names = old.lists.names ++ c.args.host ∷ [] } in
    let longer : Longer client old.lists lists old.steps = record {
      legal = c.a_legal_trail_is_legal_by_longer_lists.ensures.legal client old.lists lists old.steps (Extends-names old.lists c.args.host) c.self.invariant;
      same = c.a_legal_trail_is_legal_by_longer_lists.ensures.same client old.lists lists old.steps (Extends-names old.lists c.args.host) c.self.invariant;
    } in
    let there = ap (option_map (λ address. fact.Named (length old.lists.names) address)) (slice_get-behind old.lists.names c.args.host) in
    IsLegal-written client old c.name.new.self lists c.args.moment (entry_of.Named (length old.lists.names)) (fact.Named (length old.lists.names) c.args.host) longer c.name.ensures.lists c.name.ensures.steps there
    (rw (← c.self.view_is) at c.requires.stands)

pub returns : goal.returns
returns c =
    let client : Client = record { settings = c.self.inside.settings; commands = c.self.inside.commands; began = c.self.inside.began } in
    let old = c.self.inside.writer in
    let lists : Lists = record old.lists { names = old.lists.names ++ c.args.host ∷ [] } in
    let longer : Longer client old.lists lists old.steps = record {
      legal = c.a_legal_trail_is_legal_by_longer_lists.ensures.legal client old.lists lists old.steps (Extends-names old.lists c.args.host) c.self.invariant;
      same = c.a_legal_trail_is_legal_by_longer_lists.ensures.same client old.lists lists old.steps (Extends-names old.lists c.args.host) c.self.invariant;
    } in
    let there = ap (option_map (λ address. fact.Named (length old.lists.names) address)) (slice_get-behind old.lists.names c.args.host) in
    rw (← c.self.view_is)
    (record { adds = Adds-written client a_name old c.name.new.self lists c.args.moment (entry_of.Named (length old.lists.names)) (fact.Named (length old.lists.names) c.args.host) longer c.name.ensures.lists c.name.ensures.steps c.name.ensures.room there })
