use Rattle.std.proofs.Common.{[], ◌∷◌, ◌++◌, length, true, ap}
use Rattle.std.specs.Option.{option_map}
use Rattle.desk_trail.specs.declared.entry.Entry.TheVariants as entry_of
use Rattle.desk_trail.specs.Clients.{Client}
use Rattle.desk_trail.specs.Facts.{Lists}
use Rattle.desk_trail.specs.Facts as fact
use Rattle.desk_trail.specs.Written.{a_session}
use Rattle.legal_trail.proofs.AppendLemmas.{Adds-written, Extends-sessions, IsLegal-written, Longer, slice_get-behind}
use Rattle.legal_trail.proofs.trail.LegalTrail.lease.Goals as goal

pub invariant_of-self : goal.invariant_of-self
invariant_of-self c =
    let client : Client = record { settings = c.self.inside.settings; commands = c.self.inside.commands; began = c.self.inside.began } in
    let old = c.self.inside.writer in
    let lists : Lists = record old.lists { sessions = old.lists.sessions ++ c.args.id ∷ [] } in
    let longer : Longer client old.lists lists old.steps = record {
      legal = c.a_legal_trail_is_legal_by_longer_lists.ensures.legal client old.lists lists old.steps (Extends-sessions old.lists c.args.id) c.self.invariant;
      same = c.a_legal_trail_is_legal_by_longer_lists.ensures.same client old.lists lists old.steps (Extends-sessions old.lists c.args.id) c.self.invariant;
    } in
    let there = ap (option_map (λ i. fact.Leased c.args.op (length old.lists.sessions) i true)) (slice_get-behind old.lists.sessions c.args.id) in
    IsLegal-written client old c.lease.new.self lists c.args.moment (entry_of.Leased c.args.op (length old.lists.sessions) true) (fact.Leased c.args.op (length old.lists.sessions) c.args.id true) longer c.lease.ensures.lists c.lease.ensures.steps there
    (rw (← c.self.view_is) at c.requires.stands)

pub returns : goal.returns
returns c =
    let client : Client = record { settings = c.self.inside.settings; commands = c.self.inside.commands; began = c.self.inside.began } in
    let old = c.self.inside.writer in
    let lists : Lists = record old.lists { sessions = old.lists.sessions ++ c.args.id ∷ [] } in
    let longer : Longer client old.lists lists old.steps = record {
      legal = c.a_legal_trail_is_legal_by_longer_lists.ensures.legal client old.lists lists old.steps (Extends-sessions old.lists c.args.id) c.self.invariant;
      same = c.a_legal_trail_is_legal_by_longer_lists.ensures.same client old.lists lists old.steps (Extends-sessions old.lists c.args.id) c.self.invariant;
    } in
    let there = ap (option_map (λ i. fact.Leased c.args.op (length old.lists.sessions) i true)) (slice_get-behind old.lists.sessions c.args.id) in
    rw (← c.self.view_is)
    (record { adds = Adds-written client a_session old c.lease.new.self lists c.args.moment (entry_of.Leased c.args.op (length old.lists.sessions) true) (fact.Leased c.args.op (length old.lists.sessions) c.args.id true) longer c.lease.ensures.lists c.lease.ensures.steps c.lease.ensures.room there })
