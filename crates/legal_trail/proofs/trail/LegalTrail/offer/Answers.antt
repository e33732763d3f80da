use Rattle.std.proofs.Common.{[], ◌∷◌, ◌++◌, length, ap}
use Rattle.std.specs.Option.{option_map}
use Rattle.desk_trail.specs.declared.entry.Entry.TheVariants as entry_of
use Rattle.desk_trail.specs.Clients.{Client}
use Rattle.desk_trail.specs.Facts.{Lists}
use Rattle.desk_trail.specs.Facts as fact
use Rattle.desk_trail.specs.Written.{an_event}
use Rattle.legal_trail.proofs.AppendLemmas.{Adds-written, Extends-events, IsLegal-written, Longer, slice_get-behind}
use Rattle.legal_trail.proofs.trail.LegalTrail.offer.Goals as goal

pub invariant_of-self : goal.invariant_of-self
invariant_of-self c =
    let client : Client = record { settings = c.self.inside.settings; commands = c.self.inside.commands; began = c.self.inside.began } in
    let old = c.self.inside.writer in
    let lists : Lists = record old.lists { events = old.lists.events ++ c.args.event ∷ [] } in
    let longer : Longer client old.lists lists old.steps = record {
      legal = c.a_legal_trail_is_legal_by_longer_lists.ensures.legal client old.lists lists old.steps (Extends-events old.lists c.args.event) c.self.invariant;
      same = c.a_legal_trail_is_legal_by_longer_lists.ensures.same client old.lists lists old.steps (Extends-events old.lists c.args.event) c.self.invariant;
    } in
    let there = ap (option_map (λ e. fact.Offered (length old.lists.events) e c.args.taken)) (slice_get-behind old.lists.events c.args.event) in
    IsLegal-written client old c.offer.new.self lists c.args.moment (entry_of.Offered (length old.lists.events) c.args.taken) (fact.Offered (length old.lists.events) c.args.event c.args.taken) longer c.offer.ensures.lists c.offer.ensures.steps there
    (rw (← c.self.view_is) at c.requires.stands)

pub returns : goal.returns
returns c =
    let client : Client = record { settings = c.self.inside.settings; commands = c.self.inside.commands; began = c.self.inside.began } in
    let old = c.self.inside.writer in
    let lists : Lists = record old.lists { events = old.lists.events ++ c.args.event ∷ [] } in
    let longer : Longer client old.lists lists old.steps = record {
      legal = c.a_legal_trail_is_legal_by_longer_lists.ensures.legal client old.lists lists old.steps (Extends-events old.lists c.args.event) c.self.invariant;
      same = c.a_legal_trail_is_legal_by_longer_lists.ensures.same client old.lists lists old.steps (Extends-events old.lists c.args.event) c.self.invariant;
    } in
    let there = ap (option_map (λ e. fact.Offered (length old.lists.events) e c.args.taken)) (slice_get-behind old.lists.events c.args.event) in
    rw (← c.self.view_is)
    (record { adds = Adds-written client an_event old c.offer.new.self lists c.args.moment (entry_of.Offered (length old.lists.events) c.args.taken) (fact.Offered (length old.lists.events) c.args.event c.args.taken) longer c.offer.ensures.lists c.offer.ensures.steps c.offer.ensures.room there })
