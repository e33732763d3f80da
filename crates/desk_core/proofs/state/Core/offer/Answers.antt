use Rattle.std.proofs.Common.{◌≡◌, ◌<◌, ◌+◌, List, ◌∷◌, [], true, false, length, None, refl, sym, ap, ◌∙◌, subst, arith}
use Rattle.std.specs.Prelude.{IfSome}
use Rattle.std.specs.FinMap as map
use Rattle.std.specs.Option.{option_and_then}
use Rattle.std.proofs.lemmas.List.{length-append}
use Rattle.topo_rules.specs.Changes.{IsChange, stands}
use Rattle.topo_rules.specs.declared.topology.Topology.{Topology}
use Rattle.topo_rules.specs.Rules as rules
use Rattle.topo_rules.specs.Rules.{event_host}
use Rattle.topo_book.specs.Fresh.{is_accepted_verdict}
use Rattle.topo_book.specs.Means.{stands_known}
use Rattle.topo_book.specs.Offers.{verdict_of}
use Rattle.topo_book.specs.declared.taken.Taken.TheVariants as answer
use Rattle.desk_trail.specs.States.{ClientState, ServerState, number_of}
use Rattle.desk_trail.specs.Legal.{Point}
use Rattle.desk_trail.specs.Topologies.{asks_of, generation_in, offered_after, server_with, verdict_on}
use Rattle.desk_trail.specs.Written.{an_event}
use Rattle.desk_core.specs.Answered.{added_by, removed_by}
use Rattle.desk_core.specs.Follows.{entries_for, owed_by}
use Rattle.desk_core.specs.Rests.{KeepsChecks}
use Rattle.net_link.specs.Seen.{seen}
use Rattle.desk_trail.specs.Streams.{of_offered}
use Rattle.wired_trail.specs.Hearing.{WasHeard, told_of}
use Rattle.wired_trail.proofs.HeardLemmas.{heard-same}
use Rattle.desk_core.proofs.ApartLemmas.{AreApart-change, accepted-stands}
use Rattle.desk_core.proofs.AppendsLemmas.{Appends-adds, Appends-refl, Appends-room, Appends-trans, AreLonger-events, kept-by_offer}
use Rattle.desk_core.proofs.KeptLemmas.{IsKept-room}
use Rattle.desk_core.proofs.OfferLemmas.{IsKept-offered, IsWriting-after, OnOk-by, accepted-owes, accepted-servers, asked-within, change-is, refused-servers, refused-verdict, servers-offered, topology-is, verdict-is}
use Rattle.desk_core.proofs.RestLemmas.{KeepsChecks-same, broken-unknown}
use Rattle.desk_core.proofs.state.Core.offer.Goals as goal

pub returns-in_err-taken-clause-appends : goal.returns-in_err-taken-clause-appends
returns-in_err-taken-clause-appends g c = rw (← c.self.view_is) (Appends-refl c.args.moment c.self.inside.wired.trail)

pub returns-in_default-clause-appends : goal.returns-in_default-clause-appends
returns-in_default-clause-appends g c = rw (← c.self.view_is) (Appends-refl c.args.moment c.self.inside.wired.trail)

pub returns-in-Err-clause-appends : goal.returns-in-Err-clause-appends
returns-in-Err-clause-appends g c =
    rw (← c.self.view_is) (Appends-room c.args.moment c.self.inside.wired.trail c.reserve_beside.new.wired.trail c.reserve_beside.new.wired.trail.room (ap (λ s. s.trail) c.reserve_beside.ensures.same))

pub ask_at-requires-clause-within : goal.ask_at-requires-clause-within
ask_at-requires-clause-within g c =
    let w = rw (← c.self.view_is) at c.requires.writing in
    let h = c.self.invariant.leads w.2.runs in
    let asked = c.asked_by-asked.ensures ∙ ap (λ d. option_and_then (number_of d.trail.point.state) (asks_of c.args.event)) (sym c.self.view_is) in
    subst (λ (ss : List ServerState). IfSome c.asked_by-asked.result (λ x. x < length ss)) (ap (λ (v : ClientState). v.servers) h.state)
    (asked-within c.self.inside.wired.trail.point.state (asks_of c.args.event) c.asked_by-asked.result asked)

pub invariant_of-self-in-Accepted : goal.invariant_of-self-in-Accepted
invariant_of-self-in-Accepted g c =
    let w = rw (← c.self.view_is) at c.requires.writing in
    let r = c.reserve_beside.new.wired.trail in
    let runs : c.self.inside.stopped ≡ false = w.2.runs in
    let kept = IsKept-room c.self.inside.wired c.reserve_beside.new.wired _ _ _ _ _ _ c.reserve_beside.ensures.same c.reserve_beside.ensures.kept c.self.invariant in
    let there : r.point.state.topology ≡ c.self.inside.topology.topology = ap (λ (s : ClientState). s.topology) (kept.leads runs).state in
    let states : c.args.self.now.trail.point.state ≡ r.point.state = ap (λ d. d.trail.point.state) (sym c.self.view_is) ∙ sym (ap (λ s. s.trail.point.state) c.reserve_beside.ensures.same) in
    let verdict : verdict_of c.in_ok-taken.taken ≡ verdict_on r.point.state c.args.event =
    verdict-is c.self.inside.topology.topology r.point.state c.args.event c.in_ok-copy.copy c.generation_of-generation.result c.host.result.now (verdict_of c.in_ok-taken.taken) there c.in_ok-copy.ensures c.host.ensures
    (c.generation_of-generation.ensures ∙ ap (λ v. generation_in (server_with v c.host.result.now)) states) c.in_ok-taken.ensures.answer in
    let accepted : verdict_on r.point.state c.args.event ≡ verdict_of (answer.Accepted c.in-Accepted.change) = sym verdict ∙ ap verdict_of c.in-Accepted.is in
    let asks = accepted-servers c.args.moment c.args.event r.point.state c.asked_by-asked.result (ap is_accepted_verdict accepted)
    (c.asked_by-asked.ensures ∙ ap (λ v. option_and_then (number_of v) (asks_of c.args.event)) states) in
    IsKept-offered r c.offer-2.new.self.trail c.reserve_beside.new.wired.lines c.offer-2.new.self.lines c.self.inside.topology.topology c.offer.new.self.topology _ _ c.asked_by-asked.result _ _ _ _
    c.args.moment _ c.args.event c.said_of.result _ kept runs (ap (λ s. s.lines) c.offer-2.ensures.same) c.offer-2.ensures.adds asks c.ask_at.ensures.asked
    (topology-is c.self.inside.topology.topology c.offer.new.self.topology r.point.state c.args.event c.in_ok-copy.copy (verdict_of c.in_ok-taken.taken) there c.in_ok-copy.ensures verdict c.in_ok-taken.ensures.topology)
    w.2.now (omega (arith, c.in-Some.ensures.steps, c.in_default-reserve_beside.ensures.room.steps))

pub invariant_of-self-in_default-taken : goal.invariant_of-self-in_default-taken
invariant_of-self-in_default-taken g c =
    let w = rw (← c.self.view_is) at c.requires.writing in
    let r = c.reserve_beside.new.wired.trail in
    let runs : c.self.inside.stopped ≡ false = w.2.runs in
    let kept = IsKept-room c.self.inside.wired c.reserve_beside.new.wired _ _ _ _ _ _ c.reserve_beside.ensures.same c.reserve_beside.ensures.kept c.self.invariant in
    let there : r.point.state.topology ≡ c.self.inside.topology.topology = ap (λ (s : ClientState). s.topology) (kept.leads runs).state in
    let states : c.args.self.now.trail.point.state ≡ r.point.state = ap (λ d. d.trail.point.state) (sym c.self.view_is) ∙ sym (ap (λ s. s.trail.point.state) c.reserve_beside.ensures.same) in
    let verdict : verdict_of c.in_ok-taken.taken ≡ verdict_on r.point.state c.args.event =
    verdict-is c.self.inside.topology.topology r.point.state c.args.event c.in_ok-copy.copy c.generation_of-generation.result c.host.result.now (verdict_of c.in_ok-taken.taken) there c.in_ok-copy.ensures c.host.ensures
    (c.generation_of-generation.ensures ∙ ap (λ v. generation_in (server_with v c.host.result.now)) states) c.in_ok-taken.ensures.answer in
    let asks = refused-servers c.args.moment c.args.event r.point.state (ap is_accepted_verdict (sym verdict) ∙ refused-verdict c.in_ok-taken.taken c.in_default-taken.not-Accepted) in
    IsKept-offered r c.offer-2.new.self.trail c.reserve_beside.new.wired.lines c.offer-2.new.self.lines c.self.inside.topology.topology c.offer.new.self.topology _ _ None _ _ _ _
    c.args.moment _ c.args.event c.said_of.result _ kept runs (ap (λ s. s.lines) c.offer-2.ensures.same) c.offer-2.ensures.adds asks refl
    (topology-is c.self.inside.topology.topology c.offer.new.self.topology r.point.state c.args.event c.in_ok-copy.copy (verdict_of c.in_ok-taken.taken) there c.in_ok-copy.ensures verdict c.in_ok-taken.ensures.topology)
    w.2.now (omega (arith, c.in-Some.ensures.steps, c.in_default-reserve_beside.ensures.room.steps))

pub follow-requires-clause-writing : goal.follow-requires-clause-writing
follow-requires-clause-writing g c =
    let w = rw (← c.self.view_is) at c.requires.writing in
    let r = c.reserve_beside.new.wired.trail in
    let runs : c.self.inside.stopped ≡ false = w.2.runs in
    let kept = IsKept-room c.self.inside.wired c.reserve_beside.new.wired _ _ _ _ _ _ c.reserve_beside.ensures.same c.reserve_beside.ensures.kept c.self.invariant in
    let there : r.point.state.topology ≡ c.self.inside.topology.topology = ap (λ (s : ClientState). s.topology) (kept.leads runs).state in
    let states : c.args.self.now.trail.point.state ≡ r.point.state = ap (λ d. d.trail.point.state) (sym c.self.view_is) ∙ sym (ap (λ s. s.trail.point.state) c.reserve_beside.ensures.same) in
    let verdict : verdict_of c.in_ok-taken.taken ≡ verdict_on r.point.state c.args.event =
    verdict-is c.self.inside.topology.topology r.point.state c.args.event c.in_ok-copy.copy c.generation_of-generation.result c.host.result.now (verdict_of c.in_ok-taken.taken) there c.in_ok-copy.ensures c.host.ensures
    (c.generation_of-generation.ensures ∙ ap (λ v. generation_in (server_with v c.host.result.now)) states) c.in_ok-taken.ensures.answer in
    let h : IsChange r.point.state.topology c.args.event (rules.after r.point.state.topology c.args.event) c.in-Accepted.change =
    change-is c.self.inside.topology.topology c.offer.new.self.topology r.point.state c.args.event c.in_ok-copy.copy c.in_ok-taken.taken c.in-Accepted.change there c.in_ok-copy.ensures c.in-Accepted.is
    c.in_ok-taken.ensures.topology c.in_ok-taken.ensures.change in
    let accepted : verdict_on r.point.state c.args.event ≡ verdict_of (answer.Accepted c.in-Accepted.change) = sym verdict ∙ ap verdict_of c.in-Accepted.is in
    let asks = accepted-servers c.args.moment c.args.event r.point.state c.asked_by-asked.result (ap is_accepted_verdict accepted)
    (c.asked_by-asked.ensures ∙ ap (λ v. option_and_then (number_of v) (asks_of c.args.event)) states) in
    let servers = servers-offered r c.offer-2.new.self.trail _ c.args.moment _ c.args.event c.said_of.result _ c.asked_by-asked.result c.offer-2.ensures.adds asks in
    let used : r.room.steps ≡ c.offer-2.new.self.trail.room.steps + 1 = c.offer-2.ensures.adds.room_used.steps in
    let removed : length (removed_by c.in_ok-taken.taken) ≡ length c.in-Accepted.change.removed = ap (λ t. length (removed_by t)) c.in-Accepted.is in
    let added : length (added_by c.in_ok-taken.taken) ≡ length c.in-Accepted.change.added = ap (λ t. length (added_by t)) c.in-Accepted.is in
    let owed : r.point.owed ≡ w.0 ∷ w.1 = ap (λ s. s.trail.point.owed) c.reserve_beside.ensures.same ∙ w.2.owes in (
      w.1,
      0,
      IsWriting-after _ r an_event _ c.args.moment (0 + entries_for c.in-Accepted.change) w.0 w.1 (owed_by c.offer-2.new.self.trail.point.state c.in-Accepted.change) _ _ owed c.offer-2.ensures.adds
          (accepted-owes c.args.moment c.asked_by-asked.result r.point.state c.offer-2.new.self.trail.point.state c.args.event c.in-Accepted.change (ap is_accepted_verdict accepted) h servers) refl w.2.runs w.2.now
          (omega (arith, c.in-Some.ensures.steps, c.in_default-reserve_beside.ensures.room.steps)),
    )

pub follow-requires-clause-apart : goal.follow-requires-clause-apart
follow-requires-clause-apart g c =
    let w = rw (← c.self.view_is) at c.requires.writing in
    let r = c.reserve_beside.new.wired.trail in
    let runs : c.self.inside.stopped ≡ false = w.2.runs in
    let kept = IsKept-room c.self.inside.wired c.reserve_beside.new.wired _ _ _ _ _ _ c.reserve_beside.ensures.same c.reserve_beside.ensures.kept c.self.invariant in
    let there : r.point.state.topology ≡ c.self.inside.topology.topology = ap (λ (s : ClientState). s.topology) (kept.leads runs).state in
    let states : c.args.self.now.trail.point.state ≡ r.point.state = ap (λ d. d.trail.point.state) (sym c.self.view_is) ∙ sym (ap (λ s. s.trail.point.state) c.reserve_beside.ensures.same) in
    let verdict : verdict_of c.in_ok-taken.taken ≡ verdict_on r.point.state c.args.event =
    verdict-is c.self.inside.topology.topology r.point.state c.args.event c.in_ok-copy.copy c.generation_of-generation.result c.host.result.now (verdict_of c.in_ok-taken.taken) there c.in_ok-copy.ensures c.host.ensures
    (c.generation_of-generation.ensures ∙ ap (λ v. generation_in (server_with v c.host.result.now)) states) c.in_ok-taken.ensures.answer in
    let h : IsChange r.point.state.topology c.args.event (rules.after r.point.state.topology c.args.event) c.in-Accepted.change =
    change-is c.self.inside.topology.topology c.offer.new.self.topology r.point.state c.args.event c.in_ok-copy.copy c.in_ok-taken.taken c.in-Accepted.change there c.in_ok-copy.ensures c.in-Accepted.is
    c.in_ok-taken.ensures.topology c.in_ok-taken.ensures.change in
    let accepted : verdict_on r.point.state c.args.event ≡ verdict_of (answer.Accepted c.in-Accepted.change) = sym verdict ∙ ap verdict_of c.in-Accepted.is in
    let stood : stands r.point.state.topology (event_host c.args.event) ≡ true = accepted-stands (map.get r.point.state.topology.servers (event_host c.args.event)) c.args.event _ accepted in
    AreApart-change r.point.state.topology c.args.event _ c.in-Accepted.change h stood

pub returns-in-Accepted-clause-ok : goal.returns-in-Accepted-clause-ok
returns-in-Accepted-clause-ok g c = λ first rest before.
    let x = rw (← c.self.view_is) at before in
    let r = c.reserve_beside.new.wired.trail in
    let runs : c.self.inside.stopped ≡ false = x.runs in
    let kept = IsKept-room c.self.inside.wired c.reserve_beside.new.wired _ _ _ _ _ _ c.reserve_beside.ensures.same c.reserve_beside.ensures.kept c.self.invariant in
    let there : r.point.state.topology ≡ c.self.inside.topology.topology = ap (λ (s : ClientState). s.topology) (kept.leads runs).state in
    let states : c.args.self.now.trail.point.state ≡ r.point.state = ap (λ d. d.trail.point.state) (sym c.self.view_is) ∙ sym (ap (λ s. s.trail.point.state) c.reserve_beside.ensures.same) in
    let verdict : verdict_of c.in_ok-taken.taken ≡ verdict_on r.point.state c.args.event =
    verdict-is c.self.inside.topology.topology r.point.state c.args.event c.in_ok-copy.copy c.generation_of-generation.result c.host.result.now (verdict_of c.in_ok-taken.taken) there c.in_ok-copy.ensures c.host.ensures
    (c.generation_of-generation.ensures ∙ ap (λ v. generation_in (server_with v c.host.result.now)) states) c.in_ok-taken.ensures.answer in
    let h : IsChange r.point.state.topology c.args.event (rules.after r.point.state.topology c.args.event) c.in-Accepted.change =
    change-is c.self.inside.topology.topology c.offer.new.self.topology r.point.state c.args.event c.in_ok-copy.copy c.in_ok-taken.taken c.in-Accepted.change there c.in_ok-copy.ensures c.in-Accepted.is
    c.in_ok-taken.ensures.topology c.in_ok-taken.ensures.change in
    let accepted : verdict_on r.point.state c.args.event ≡ verdict_of (answer.Accepted c.in-Accepted.change) = sym verdict ∙ ap verdict_of c.in-Accepted.is in
    let asks = accepted-servers c.args.moment c.args.event r.point.state c.asked_by-asked.result (ap is_accepted_verdict accepted)
    (c.asked_by-asked.ensures ∙ ap (λ v. option_and_then (number_of v) (asks_of c.args.event)) states) in
    let servers = servers-offered r c.offer-2.new.self.trail _ c.args.moment _ c.args.event c.said_of.result _ c.asked_by-asked.result c.offer-2.ensures.adds asks in
    let used : r.room.steps ≡ c.offer-2.new.self.trail.room.steps + 1 = c.offer-2.ensures.adds.room_used.steps in
    let removed : length (removed_by c.in_ok-taken.taken) ≡ length c.in-Accepted.change.removed = ap (λ t. length (removed_by t)) c.in-Accepted.is in
    let added : length (added_by c.in_ok-taken.taken) ≡ length c.in-Accepted.change.added = ap (λ t. length (added_by t)) c.in-Accepted.is in
    let owed : r.point.owed ≡ first ∷ rest = ap (λ s. s.trail.point.owed) c.reserve_beside.ensures.same ∙ x.owes in
    c.follow.ensures.ok rest 0 (IsWriting-after _ r an_event _ c.args.moment (0 + entries_for c.in-Accepted.change) first rest (owed_by c.offer-2.new.self.trail.point.state c.in-Accepted.change) _ _ owed c.offer-2.ensures.adds
    (accepted-owes c.args.moment c.asked_by-asked.result r.point.state c.offer-2.new.self.trail.point.state c.args.event c.in-Accepted.change (ap is_accepted_verdict accepted) h servers) refl x.runs x.now
    (omega (arith, c.in-Some.ensures.steps, c.in_default-reserve_beside.ensures.room.steps)))

pub returns-in-Accepted-clause-names : goal.returns-in-Accepted-clause-names
returns-in-Accepted-clause-names g c =
    let w = rw (← c.self.view_is) at c.requires.writing in
    let r = c.reserve_beside.new.wired.trail in
    let runs : c.self.inside.stopped ≡ false = w.2.runs in
    let kept = IsKept-room c.self.inside.wired c.reserve_beside.new.wired _ _ _ _ _ _ c.reserve_beside.ensures.same c.reserve_beside.ensures.kept c.self.invariant in
    let there : r.point.state.topology ≡ c.self.inside.topology.topology = ap (λ (s : ClientState). s.topology) (kept.leads runs).state in
    let states : c.args.self.now.trail.point.state ≡ r.point.state = ap (λ d. d.trail.point.state) (sym c.self.view_is) ∙ sym (ap (λ s. s.trail.point.state) c.reserve_beside.ensures.same) in
    let verdict : verdict_of c.in_ok-taken.taken ≡ verdict_on r.point.state c.args.event =
    verdict-is c.self.inside.topology.topology r.point.state c.args.event c.in_ok-copy.copy c.generation_of-generation.result c.host.result.now (verdict_of c.in_ok-taken.taken) there c.in_ok-copy.ensures c.host.ensures
    (c.generation_of-generation.ensures ∙ ap (λ v. generation_in (server_with v c.host.result.now)) states) c.in_ok-taken.ensures.answer in
    let h : IsChange r.point.state.topology c.args.event (rules.after r.point.state.topology c.args.event) c.in-Accepted.change =
    change-is c.self.inside.topology.topology c.offer.new.self.topology r.point.state c.args.event c.in_ok-copy.copy c.in_ok-taken.taken c.in-Accepted.change there c.in_ok-copy.ensures c.in-Accepted.is
    c.in_ok-taken.ensures.topology c.in_ok-taken.ensures.change in
    let accepted : verdict_on r.point.state c.args.event ≡ verdict_of (answer.Accepted c.in-Accepted.change) = sym verdict ∙ ap verdict_of c.in-Accepted.is in
    let stood : stands r.point.state.topology (event_host c.args.event) ≡ true = accepted-stands (map.get r.point.state.topology.servers (event_host c.args.event)) c.args.event _ accepted in
    let most = (c.moves_are_bounded.ensures r.point.state.topology c.args.event stood).added in
    let names = ap length (ap (λ l. l.names) c.offer-2.ensures.adds.lists_now ∙ ap (λ s. s.trail.lists.names) c.reserve_beside.ensures.same ∙ ap (λ d. d.trail.lists.names) c.self.view_is) in
    let added = ap length h.added in
    OnOk-by c.follow.result _ _ (λ e.
    let all = ap length e ∙ length-append c.offer-2.new.self.trail.lists.names c.in-Accepted.change.added in
    omega (arith, most, names, added, all)) c.follow.ensures.names

pub returns-in-Accepted-clause-appends : goal.returns-in-Accepted-clause-appends
returns-in-Accepted-clause-appends g c =
    rw (← c.self.view_is)
    (Appends-trans c.args.moment c.self.inside.wired.trail c.reserve_beside.new.wired.trail c.follow.new.self.trail
    (Appends-room c.args.moment c.self.inside.wired.trail c.reserve_beside.new.wired.trail c.reserve_beside.new.wired.trail.room (ap (λ s. s.trail) c.reserve_beside.ensures.same))
    (Appends-trans c.args.moment c.reserve_beside.new.wired.trail c.offer-2.new.self.trail c.follow.new.self.trail
    (Appends-adds _ _ c.args.moment _ _ c.reserve_beside.new.wired.trail c.offer-2.new.self.trail (AreLonger-events _ (c.args.event ∷ [])) c.offer-2.ensures.adds (λ e. absurd (cc)) (kept-by_offer c.reserve_beside.new.wired.trail.client c.args.moment c.reserve_beside.new.wired.trail.point.state _ c.args.event _))
    c.follow.ensures.appends))

pub returns-in-Accepted-clause-checks : goal.returns-in-Accepted-clause-checks
returns-in-Accepted-clause-checks g c =
    let r = c.reserve_beside.new.wired.trail in
    let states : c.args.self.now.trail.point.state ≡ r.point.state = ap (λ d. d.trail.point.state) (sym c.self.view_is) ∙ sym (ap (λ s. s.trail.point.state) c.reserve_beside.ensures.same) in
    let now : c.offer-2.new.self.trail.point.state ≡ offered_after c.args.moment c.args.event c.args.self.now.trail.point.state =
    ap (λ (p : Point). p.state) c.offer-2.ensures.adds.point_now ∙ ap (offered_after c.args.moment c.args.event) (sym states) in
    OnOk-by c.follow.result _ _ (λ k. subst (λ w. KeepsChecks w c.follow.new.self.trail.point.state) now k) c.follow.ensures.checks

pub returns-in-Accepted-clause-unknown : goal.returns-in-Accepted-clause-unknown
returns-in-Accepted-clause-unknown g c =
    let r = c.reserve_beside.new.wired.trail in
    let states : c.args.self.now.trail.point.state ≡ r.point.state = ap (λ d. d.trail.point.state) (sym c.self.view_is) ∙ sym (ap (λ s. s.trail.point.state) c.reserve_beside.ensures.same) in
    let now : c.offer-2.new.self.trail.point.state ≡ offered_after c.args.moment c.args.event c.args.self.now.trail.point.state =
    ap (λ (p : Point). p.state) c.offer-2.ensures.adds.point_now ∙ ap (offered_after c.args.moment c.args.event) (sym states) in
    OnOk-by c.follow.result _ _ (λ (k : KeepsChecks c.offer-2.new.self.trail.point.state c.follow.new.self.trail.point.state). λ host is.
    ap (λ (t : Topology). stands_known t host) (k.topology ∙ ap (λ (w : ClientState). w.topology) now)
    ∙ broken-unknown c.args.self.now.trail.point.state c.args.event host is c.nothing_else_stands.ensures) c.follow.ensures.checks

pub returns-in_default-taken-clause-checks : goal.returns-in_default-taken-clause-checks
returns-in_default-taken-clause-checks g c =
    let r = c.reserve_beside.new.wired.trail in
    let states : c.args.self.now.trail.point.state ≡ r.point.state = ap (λ d. d.trail.point.state) (sym c.self.view_is) ∙ sym (ap (λ s. s.trail.point.state) c.reserve_beside.ensures.same) in
    let now : c.offer-2.new.self.trail.point.state ≡ offered_after c.args.moment c.args.event c.args.self.now.trail.point.state =
    ap (λ (p : Point). p.state) c.offer-2.ensures.adds.point_now ∙ ap (offered_after c.args.moment c.args.event) (sym states) in
    KeepsChecks-same (offered_after c.args.moment c.args.event c.args.self.now.trail.point.state) c.offer-2.new.self.trail.point.state
    (ap (λ (w : ClientState). w.topology) now) (ap (λ (w : ClientState). w.servers) now)

pub returns-in_default-taken-clause-unknown : goal.returns-in_default-taken-clause-unknown
returns-in_default-taken-clause-unknown g c = λ host is.
    let r = c.reserve_beside.new.wired.trail in
    let states : c.args.self.now.trail.point.state ≡ r.point.state = ap (λ d. d.trail.point.state) (sym c.self.view_is) ∙ sym (ap (λ s. s.trail.point.state) c.reserve_beside.ensures.same) in
    let now : c.offer-2.new.self.trail.point.state ≡ offered_after c.args.moment c.args.event c.args.self.now.trail.point.state =
    ap (λ (p : Point). p.state) c.offer-2.ensures.adds.point_now ∙ ap (offered_after c.args.moment c.args.event) (sym states) in
    ap (λ (w : ClientState). stands_known w.topology host) now
    ∙ broken-unknown c.args.self.now.trail.point.state c.args.event host is c.nothing_else_stands.ensures

pub offer-requires-2-clause-heard : goal.offer-requires-2-clause-heard
offer-requires-2-clause-heard g c = λ tells.
    let r = c.self.inside.wired.trail in
    let x = c.reserve_beside.new.wired.trail in
    let same = c.reserve_beside.ensures.same in
    let heard = rw (← c.self.view_is) at (c.requires.heard tells) in
    heard-same (g.N.Net.history c.self.inside.wired.net) (g.N.Net.history c.reserve_beside.new.wired.net) r x (of_offered x.point.state c.args.event)
    (λ s. ap (λ w. seen s (g.N.Net.history w.net)) same) (λ s. ap (λ w. told_of w.trail s) same)
    (subst (λ (p : Point). WasHeard (g.N.Net.history c.self.inside.wired.net) r (of_offered p.state c.args.event)) (sym (ap (λ w. w.trail.point) same)) heard)
