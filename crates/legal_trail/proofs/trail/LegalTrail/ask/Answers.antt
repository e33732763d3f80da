use Rattle.std.proofs.Common.{[], ◌∷◌, ◌++◌, length, ap}
use Rattle.std.specs.Option.{option_map}
use Rattle.desk_trail.specs.declared.entry.Entry.TheVariants as entry_of
use Rattle.desk_trail.specs.Clients.{Client}
use Rattle.desk_trail.specs.Facts.{Lists}
use Rattle.desk_trail.specs.Facts as fact
use Rattle.desk_trail.specs.Written.{a_request}
use Rattle.legal_trail.proofs.AppendLemmas.{Adds-written, Extends-requests, IsLegal-written, Longer, slice_get-behind}
use Rattle.legal_trail.proofs.trail.LegalTrail.ask.Goals as goal

pub invariant_of-self : goal.invariant_of-self
invariant_of-self c =
    let client : Client = record { settings = c.self.inside.settings; commands = c.self.inside.commands; began = c.self.inside.began } in
    let old = c.self.inside.writer in
    let lists : Lists = record old.lists { requests = old.lists.requests ++ c.args.request ∷ [] } in
    let longer : Longer client old.lists lists old.steps = record {
      legal = c.a_legal_trail_is_legal_by_longer_lists.ensures.legal client old.lists lists old.steps (Extends-requests old.lists c.args.request) c.self.invariant;
      same = c.a_legal_trail_is_legal_by_longer_lists.ensures.same client old.lists lists old.steps (Extends-requests old.lists c.args.request) c.self.invariant;
    } in
    let there = ap (option_map (λ r. fact.Asked (length old.lists.requests) r)) (slice_get-behind old.lists.requests c.args.request) in
    IsLegal-written client old c.ask.new.self lists c.args.moment (entry_of.Asked (length old.lists.requests)) (fact.Asked (length old.lists.requests) c.args.request) longer c.ask.ensures.lists c.ask.ensures.steps there
    (rw (← c.self.view_is) at c.requires.stands)

pub returns : goal.returns
returns c =
    let client : Client = record { settings = c.self.inside.settings; commands = c.self.inside.commands; began = c.self.inside.began } in
    let old = c.self.inside.writer in
    let lists : Lists = record old.lists { requests = old.lists.requests ++ c.args.request ∷ [] } in
    let longer : Longer client old.lists lists old.steps = record {
      legal = c.a_legal_trail_is_legal_by_longer_lists.ensures.legal client old.lists lists old.steps (Extends-requests old.lists c.args.request) c.self.invariant;
      same = c.a_legal_trail_is_legal_by_longer_lists.ensures.same client old.lists lists old.steps (Extends-requests old.lists c.args.request) c.self.invariant;
    } in
    let there = ap (option_map (λ r. fact.Asked (length old.lists.requests) r)) (slice_get-behind old.lists.requests c.args.request) in
    rw (← c.self.view_is)
    (record { adds = Adds-written client a_request old c.ask.new.self lists c.args.moment (entry_of.Asked (length old.lists.requests)) (fact.Asked (length old.lists.requests) c.args.request) longer c.ask.ensures.lists c.ask.ensures.steps c.ask.ensures.room there })
