use Rattle.std.proofs.Common.{◌≡◌, ◌+◌, ◌++◌, Bool, length, None, Some, refl, sym, ap, ◌∙◌, subst, arith, true}
use Rattle.std.specs.Prelude.{drop, slice_get}
use Rattle.std.proofs.lemmas.List.{length-map}
use Rattle.std.proofs.lemmas.Option.{slice_get_within}
use Rattle.topo_book.specs.Means.{stands_known}
use Rattle.topo_rules.specs.Laws.{listed_by}
use Rattle.topo_rules.specs.declared.event.TopoEvent.TheVariants as event_of
use Rattle.desk_trail.specs.declared.entry.CheckHow.{CheckHow}
use Rattle.desk_trail.specs.declared.entry.CheckHow.TheVariants as how_of
use Rattle.desk_trail.specs.declared.entry.Entry.TheVariants as entry_of
use Rattle.desk_trail.specs.declared.room.Room.{Room}
use Rattle.watch_step.specs.Ends.{is_again}
use Rattle.desk_trail.specs.Checks.{check_ends, end_of, kept_stream, offered_of}
use Rattle.desk_trail.specs.Facts.{Lists}
use Rattle.desk_trail.specs.Facts as fact
use Rattle.desk_trail.specs.Legal.{Point}
use Rattle.desk_trail.specs.States.{ClientState, ServerState}
use Rattle.desk_trail.specs.Topologies.{asks_of, offered_after}
use Rattle.desk_trail.specs.Written.{IsAtLeast, an_entry}
use Rattle.legal_trail.specs.Recorded.{Recorded}
use Rattle.desk_core.specs.Kept.{MayBegin}
use Rattle.wired_trail.specs.Wired.{says_no_dial}
use Rattle.desk_core.specs.Hearing.{IsNoReply}
use Rattle.wired_trail.specs.Hearing.{HasUntoldDial}
use Rattle.desk_core.proofs.HeardLemmas.{other-offers}
use Rattle.desk_core.proofs.AppendsLemmas.{Appends-adds, Appends-quiet, Appends-refl, Appends-room, Appends-trans, AreLonger-refl, kept-by_end}
use Rattle.desk_core.proofs.CheckLemmas.{IsKept-ended, IsOwedBy-broken, StandsAt-undialled, all_same, begins-left, none_kept}
use Rattle.desk_core.proofs.DropLemmas.{read-there}
use Rattle.desk_core.proofs.KeptLemmas.{IsKept-room}
use Rattle.desk_core.proofs.OfferLemmas.{OnOk-by}
use Rattle.desk_core.proofs.RestLemmas.{IsAtRest-ended, at-ended, offered-servers}
use Rattle.desk_core.proofs.state.Core.end_undialled.Goals as goal

pub returns-in_err-end-clause-appends : goal.returns-in_err-end-clause-appends
returns-in_err-end-clause-appends g c = rw (← c.self.view_is) (Appends-refl c.args.moment c.self.inside.wired.trail)

pub returns-in_err-room-clause-appends : goal.returns-in_err-room-clause-appends
returns-in_err-room-clause-appends g c = rw (← c.self.view_is) (Appends-refl c.args.moment c.self.inside.wired.trail)

pub invariant_of-self : goal.invariant_of-self
invariant_of-self g c =
    IsKept-room c.self.inside.wired c.reserve_beside.new.wired c.self.inside.topology.topology c.self.inside.servers.items c.self.inside.gossip c.self.inside.closings c.self.inside.last c.self.inside.stopped
    c.reserve_beside.ensures.same c.reserve_beside.ensures.kept c.self.invariant

pub returns-in_err-reserve_beside-clause-appends : goal.returns-in_err-reserve_beside-clause-appends
returns-in_err-reserve_beside-clause-appends g c =
    rw (← c.self.view_is)
    (Appends-room c.args.moment c.self.inside.wired.trail c.reserve_beside.new.wired.trail c.reserve_beside.new.wired.trail.room (ap (λ s. s.trail) c.reserve_beside.ensures.same))

pub index-requires-2 : goal.index-requires-2
index-requires-2 g c =
    let ready = rw (← c.self.view_is) at c.requires.begins.1 in
    let rest = c.requires.begins.0 in
    let due = rw (← c.self.view_is) at c.requires.due in
    let h = c.self.invariant.leads ready.runs in
    let there : slice_get c.self.inside.servers.items c.args.host ≡ Some due.0 = ap (λ (s : ClientState). slice_get s.servers c.args.host) (sym h.state) ∙ due.1 in
    let within = slice_get_within c.self.inside.servers.items c.args.host due.0 there in
    omega (arith, c.self.inside.servers.ok)

pub tell_undialled-requires-clause-stands : goal.tell_undialled-requires-clause-stands
tell_undialled-requires-clause-stands g c =
    let ready = rw (← c.self.view_is) at c.requires.begins.1 in
    let rest = c.requires.begins.0 in
    let due = rw (← c.self.view_is) at c.requires.due in
    let h = c.self.invariant.leads ready.runs in
    let point : c.reserve_beside.new.wired.trail.point ≡ c.self.inside.wired.trail.point = ap (λ s. s.trail.point) c.reserve_beside.ensures.same in
    let ahead : c.reserve_beside.new.wired.trail.point.moment ≡ c.self.inside.wired.trail.point.moment = ap (λ (p : Point). p.moment) point in
    let how : c.in_ok-end.end.how ≡ how_of.NoDial = ap (λ e. e.how) c.in_ok-end.ensures in
    let moment = h.moment in
    let now = ready.now in (
      fact.CheckEnded c.args.host c.in_ok-end.end.how,
      refl,
      StandsAt-undialled c.reserve_beside.new.wired.trail.client c.reserve_beside.new.wired.trail.point c.args.moment c.args.host c.in_ok-end.end.how rest how
          (subst (λ (p : Point). MayBegin p c.args.moment c.args.host rest) (sym point) ready.turn)
          (omega arith) (ap (λ (p : Point). p.state.is_ending) point ∙ ap (λ (s : ClientState). s.is_ending) h.state)
          (due.0, ap (λ (p : Point). slice_get p.state.servers c.args.host) point ∙ due.1, (due.2.0, due.2.1)),
    )

pub index_mut-server-requires : goal.index_mut-server-requires
index_mut-server-requires g c =
    let ready = rw (← c.self.view_is) at c.requires.begins.1 in
    let rest = c.requires.begins.0 in
    let due = rw (← c.self.view_is) at c.requires.due in
    let h = c.self.invariant.leads ready.runs in
    let there : slice_get c.self.inside.servers.items c.args.host ≡ Some due.0 = ap (λ (s : ClientState). slice_get s.servers c.args.host) (sym h.state) ∙ due.1 in
    let within = slice_get_within c.self.inside.servers.items c.args.host due.0 there in
    omega (arith, c.self.inside.servers.ok)

pub end_check-requires-clause-stays : goal.end_check-requires-clause-stays
end_check-requires-clause-stays g c =
    let ready = rw (← c.self.view_is) at c.requires.begins.1 in
    let rest = c.requires.begins.0 in
    let due = rw (← c.self.view_is) at c.requires.due in
    let h = c.self.invariant.leads ready.runs in
    let there : slice_get c.self.inside.servers.items c.args.host ≡ Some due.0 = ap (λ (s : ClientState). slice_get s.servers c.args.host) (sym h.state) ∙ due.1 in
    let is : c.index_mut-server.result.now ≡ due.0 =
    read-there c.self.inside.servers.items c.args.host due.0 c.index_mut-server.result.now there c.index_mut-server.ensures.value in
    ap (λ (s : ServerState). s.has_left) is ∙ due.2.0.stays

pub end_check-requires-clause-idle : goal.end_check-requires-clause-idle
end_check-requires-clause-idle g c = λ n.
    let ready = rw (← c.self.view_is) at c.requires.begins.1 in
    let rest = c.requires.begins.0 in
    let due = rw (← c.self.view_is) at c.requires.due in
    let h = c.self.invariant.leads ready.runs in
    let there : slice_get c.self.inside.servers.items c.args.host ≡ Some due.0 = ap (λ (s : ClientState). slice_get s.servers c.args.host) (sym h.state) ∙ due.1 in
    let is : c.index_mut-server.result.now ≡ due.0 =
    read-there c.self.inside.servers.items c.args.host due.0 c.index_mut-server.result.now there c.index_mut-server.ensures.value in
    ap (λ (s : ServerState). s.checks.began) is ∙ due.2.0.rests

pub invariant_of-self-2 : goal.invariant_of-self-2
invariant_of-self-2 g c =
    let ready = rw (← c.self.view_is) at c.requires.begins.1 in
    let rest = c.requires.begins.0 in
    let due = rw (← c.self.view_is) at c.requires.due in
    let h = c.self.invariant.leads ready.runs in
    let r : Recorded = c.reserve_beside.new.wired.trail in
    let how : c.in_ok-end.end.how ≡ how_of.NoDial = ap (λ e. e.how) c.in_ok-end.ensures in
    let kept =
    IsKept-room c.self.inside.wired c.reserve_beside.new.wired c.self.inside.topology.topology c.self.inside.servers.items c.self.inside.gossip c.self.inside.closings c.self.inside.last c.self.inside.stopped
    c.reserve_beside.ensures.same c.reserve_beside.ensures.kept c.self.invariant in
    let there : slice_get c.self.inside.servers.items c.args.host ≡ Some due.0 = ap (λ (s : ClientState). slice_get s.servers c.args.host) (sym h.state) ∙ due.1 in
    let is : c.index_mut-server.result.now ≡ due.0 =
    read-there c.self.inside.servers.items c.args.host due.0 c.index_mut-server.result.now there c.index_mut-server.ensures.value in
    let read : c.index-2.result.now ≡ due.0 = read-there c.self.inside.servers.items c.args.host due.0 c.index-2.result.now there c.index-2.ensures in
    let known : c.is_known-known.result ≡ stands_known c.self.inside.topology.topology due.0.address =
    c.is_known-known.ensures ∙ ap (stands_known c.self.inside.topology.topology) (c.host-2.ensures.address ∙ ap (λ (s : ServerState). s.address) read) in
    let adds = c.tell_undialled.ensures.adds (fact.CheckEnded c.args.host c.in_ok-end.end.how) refl in
    let more : IsAtLeast (record { names = 0; events = 0; sessions = 0; requests = 0; steps = c.self.inside.closings + 1 }) r.room =
    subst (λ (m : Room). IsAtLeast m r.room) c.in_ok-room.ensures c.in_ok-reserve_beside.ensures.room in
    let steps = more.steps in
    let used = adds.room_used.steps in
    IsKept-ended r c.tell_undialled.new.self.trail c.reserve_beside.new.wired.lines c.tell_undialled.new.self.lines c.self.inside.topology.topology c.self.inside.servers.items c.self.inside.gossip
    c.self.inside.closings c.self.inside.last c.args.moment c.args.host c.self.inside.stopped c.in_ok-end.end.how c.is_known-known.result due.0 c.end_check.new.self
    (entry_of.CheckEnded c.args.host c.in_ok-end.end.how) adds there (λ n. due.2.1) (none_kept (ap (λ k. kept_stream k due.0.check_stream) how))
    (all_same (ap (λ s. s.lines) c.tell_undialled.ensures.same)) ready.now (omega arith) known
    (c.end_check.ensures.ends ∙ ap (check_ends c.args.moment c.in_ok-end.end.how c.is_known-known.result) is) kept

pub offer-requires-clause-writing : goal.offer-requires-clause-writing
offer-requires-clause-writing g c =
    let ready = rw (← c.self.view_is) at c.requires.begins.1 in
    let rest = c.requires.begins.0 in
    let due = rw (← c.self.view_is) at c.requires.due in
    let h = c.self.invariant.leads ready.runs in
    let r : Recorded = c.reserve_beside.new.wired.trail in
    let k : CheckHow = c.in_ok-end.end.how in
    let how : k ≡ how_of.NoDial = ap (λ e. e.how) c.in_ok-end.ensures in
    let point : r.point ≡ c.self.inside.wired.trail.point = ap (λ s. s.trail.point) c.reserve_beside.ensures.same in
    let there : slice_get c.self.inside.servers.items c.args.host ≡ Some due.0 = ap (λ (s : ClientState). slice_get s.servers c.args.host) (sym h.state) ∙ due.1 in
    let read : c.index.result.now ≡ due.0 = read-there c.self.inside.servers.items c.args.host due.0 c.index.result.now there c.index.ensures in
    let event : c.in_ok-end.end.event ≡ event_of.Broken due.0.address None =
    ap (λ e. e.event) c.in_ok-end.ensures ∙ ap (λ a. event_of.Broken a None) (c.host.ensures.address ∙ ap (λ (s : ServerState). s.address) read) in
    let o = IsOwedBy-broken k due.0 c.in_ok-end.end.event how event in
    let adds = c.tell_undialled.ensures.adds (fact.CheckEnded c.args.host k) refl in
    let more : IsAtLeast (record { names = 0; events = 0; sessions = 0; requests = 0; steps = c.self.inside.closings + 1 }) r.room =
    subst (λ (m : Room). IsAtLeast m r.room) c.in_ok-room.ensures c.in_ok-reserve_beside.ensures.room in
    let steps = more.steps in
    let used = adds.room_used.steps in (
      o.first,
      rest,
      record {
        runs = ready.runs;
        owes =
            ap (λ (p : Point). p.owed) adds.point_now
            ∙ ap (λ (p : Point). offered_of k (slice_get p.state.servers c.args.host) ++ drop 1 p.owed) point
            ∙ ap (λ x. offered_of k x ++ drop 1 c.self.inside.wired.trail.point.owed) due.1
            ∙ ap (λ ds. offered_of k (Some due.0) ++ ds) (begins-left c.self.inside.wired.trail.point c.args.moment c.args.host rest ready.turn) ∙ ap (λ ds. ds ++ rest) o.is;
        at = ap (λ (p : Point). p.moment) adds.point_now;
        now = ready.now;
        space = omega arith;
      },
      o.offers,
    )

pub offer-requires-clause-count : goal.offer-requires-clause-count
offer-requires-clause-count g c =
    let ready = rw (← c.self.view_is) at c.requires.begins.1 in
    let rest = c.requires.begins.0 in
    let h = c.self.invariant.leads ready.runs in
    let adds = c.tell_undialled.ensures.adds (fact.CheckEnded c.args.host c.in_ok-end.end.how) refl in
    let count : length c.tell_undialled.new.self.trail.lists.names ≡ length c.self.inside.servers.items =
    ap (λ (l : Lists). length l.names) adds.lists_now ∙ ap (λ s. length s.trail.lists.names) c.reserve_beside.ensures.same ∙ ap length h.names
    ∙ length-map c.self.inside.servers.items (λ (s : ServerState). s.address) in
    let numbers = h.numbers in
    let listed : length (listed_by c.in_ok-end.end.event) ≡ 0 = ap (λ e. length (listed_by e.event)) c.in_ok-end.ensures in
    omega arith

pub returns-clause-ok : goal.returns-clause-ok
returns-clause-ok g c = λ rest begins.
    let ready = rw (← c.self.view_is) at begins in
    let due = rw (← c.self.view_is) at c.requires.due in
    let h = c.self.invariant.leads ready.runs in
    let r : Recorded = c.reserve_beside.new.wired.trail in
    let k : CheckHow = c.in_ok-end.end.how in
    let how : k ≡ how_of.NoDial = ap (λ e. e.how) c.in_ok-end.ensures in
    let point : r.point ≡ c.self.inside.wired.trail.point = ap (λ s. s.trail.point) c.reserve_beside.ensures.same in
    let there : slice_get c.self.inside.servers.items c.args.host ≡ Some due.0 = ap (λ (s : ClientState). slice_get s.servers c.args.host) (sym h.state) ∙ due.1 in
    let read : c.index.result.now ≡ due.0 = read-there c.self.inside.servers.items c.args.host due.0 c.index.result.now there c.index.ensures in
    let event : c.in_ok-end.end.event ≡ event_of.Broken due.0.address None =
    ap (λ e. e.event) c.in_ok-end.ensures ∙ ap (λ a. event_of.Broken a None) (c.host.ensures.address ∙ ap (λ (s : ServerState). s.address) read) in
    let o = IsOwedBy-broken k due.0 c.in_ok-end.end.event how event in
    let adds = c.tell_undialled.ensures.adds (fact.CheckEnded c.args.host k) refl in
    let more : IsAtLeast (record { names = 0; events = 0; sessions = 0; requests = 0; steps = c.self.inside.closings + 1 }) r.room =
    subst (λ (m : Room). IsAtLeast m r.room) c.in_ok-room.ensures c.in_ok-reserve_beside.ensures.room in
    let steps = more.steps in
    let used = adds.room_used.steps in
    c.offer.ensures.ok o.first rest (record {
      runs = ready.runs;
      owes =
          ap (λ (p : Point). p.owed) adds.point_now
          ∙ ap (λ (p : Point). offered_of k (slice_get p.state.servers c.args.host) ++ drop 1 p.owed) point
          ∙ ap (λ x. offered_of k x ++ drop 1 c.self.inside.wired.trail.point.owed) due.1
          ∙ ap (λ ds. offered_of k (Some due.0) ++ ds) (begins-left c.self.inside.wired.trail.point c.args.moment c.args.host rest ready.turn) ∙ ap (λ ds. ds ++ rest) o.is;
      at = ap (λ (p : Point). p.moment) adds.point_now;
      now = ready.now;
      space = omega arith;
    })

pub returns-clause-appends : goal.returns-clause-appends
returns-clause-appends g c =
    let old : Recorded = c.self.inside.wired.trail in
    let r : Recorded = c.reserve_beside.new.wired.trail in
    let between : Recorded = c.tell_undialled.new.self.trail in
    let k : CheckHow = c.in_ok-end.end.how in
    rw (← c.self.view_is)
    (Appends-trans c.args.moment old r c.offer.new.self.trail (Appends-room c.args.moment old r r.room (ap (λ s. s.trail) c.reserve_beside.ensures.same))
    (Appends-trans c.args.moment r between c.offer.new.self.trail
    (Appends-adds an_entry r.lists c.args.moment (entry_of.CheckEnded c.args.host k) (fact.CheckEnded c.args.host k) r between (AreLonger-refl r.lists)
    (c.tell_undialled.ensures.adds (fact.CheckEnded c.args.host k) refl) (λ e. tt) (kept-by_end r.client c.args.moment r.point.state c.args.host k))
    (Appends-quiet c.args.moment between c.offer.new.self.trail c.offer.ensures.appends)))

pub returns-clause-rests : goal.returns-clause-rests
returns-clause-rests g c =
    let ready = rw (← c.self.view_is) at c.requires.begins.1 in
    let rest = c.requires.begins.0 in
    let due = rw (← c.self.view_is) at c.requires.due in
    let h = c.self.invariant.leads ready.runs in
    let r : Recorded = c.reserve_beside.new.wired.trail in
    let k : CheckHow = c.in_ok-end.end.how in
    let how : k ≡ how_of.NoDial = ap (λ e. e.how) c.in_ok-end.ensures in
    let point : r.point ≡ c.self.inside.wired.trail.point = ap (λ s. s.trail.point) c.reserve_beside.ensures.same in
    let there : slice_get c.self.inside.servers.items c.args.host ≡ Some due.0 = ap (λ (s : ClientState). slice_get s.servers c.args.host) (sym h.state) ∙ due.1 in
    let between : ClientState = c.tell_undialled.new.self.trail.point.state in
    let known : Bool = stands_known r.point.state.topology due.0.address in
    let behind : slice_get between.servers c.args.host ≡ Some (check_ends c.args.moment k known due.0) =
    at-ended r c.tell_undialled.new.self.trail c.args.moment c.args.host k due.0 (entry_of.CheckEnded c.args.host k) (c.tell_undialled.ensures.adds (fact.CheckEnded c.args.host k) refl)
    (ap (λ (p : Point). slice_get p.state.servers c.args.host) point ∙ due.1) in
    let plain : asks_of c.in_ok-end.end.event ≡ None = ap (λ e. asks_of e.event) c.in_ok-end.ensures in
    OnOk-by c.offer.result _ _ (λ kept.
    IsAtRest-ended (offered_after c.args.moment c.in_ok-end.end.event between) c.offer.new.self.trail.point.state c.args.moment c.args.host k known due.0
    (ap (λ ss. slice_get ss c.args.host) (offered-servers c.args.moment c.in_ok-end.end.event between plain) ∙ behind) (h.kept c.args.host due.0 there).paced
    (ap (λ j. is_again (end_of j) known) how) kept) c.offer.ensures.checks

pub tell_undialled-requires-clause-undialled : goal.tell_undialled-requires-clause-undialled
tell_undialled-requires-clause-undialled g c = λ told is.
    let how : c.in_ok-end.end.how ≡ how_of.NoDial = ap (λ e. e.how) c.in_ok-end.ensures in
    let same : fact.CheckEnded c.args.host c.in_ok-end.end.how ≡ told = cc in
    subst (λ t. says_no_dial t ≡ true) same (ap (λ h. says_no_dial (fact.CheckEnded c.args.host h)) how)

pub tell_undialled-requires-clause-untold : goal.tell_undialled-requires-clause-untold
tell_undialled-requires-clause-untold g c = λ tells.
    let untold = rw (← c.self.view_is) at (c.requires.untold tells) in
    let net = subst (λ h. HasUntoldDial h c.self.inside.wired.trail) (sym (ap (λ s. g.N.Net.history s.net) c.reserve_beside.ensures.same)) untold in
    subst (λ (t : Recorded). HasUntoldDial (g.N.Net.history c.reserve_beside.new.wired.net) t) (sym (ap (λ s. s.trail) c.reserve_beside.ensures.same)) net

pub offer-requires-clause-heard : goal.offer-requires-clause-heard
offer-requires-clause-heard g c = λ tells.
    other-offers (g.N.Net.history c.tell_undialled.new.self.net) c.tell_undialled.new.self.trail c.in_ok-end.end.event (subst IsNoReply (sym (ap (λ e. e.event) c.in_ok-end.ensures)) tt)

pub tell_undialled-requires-clause-counted : goal.tell_undialled-requires-clause-counted
tell_undialled-requires-clause-counted g c = λ tells.
    let untold = rw (← c.self.view_is) at c.requires.counted in
    rw (c.reserve_beside.ensures.same) untold
