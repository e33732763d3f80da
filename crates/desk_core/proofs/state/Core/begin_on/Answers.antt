use Rattle.std.proofs.Common.{◌≡◌, ◌∷◌, [], length, Some, refl, sym, ap, ◌∙◌, subst, arith, ◌+◌, None}
use Rattle.std.specs.Prelude.{drop, slice_get}
use Rattle.std.specs.Option.{option_map}
use Rattle.std.proofs.lemmas.Option.{slice_get_within}
use Rattle.desk_trail.specs.declared.entry.Entry.TheVariants as entry_of
use Rattle.desk_trail.specs.declared.request.Purpose.TheVariants as purpose_of
use Rattle.desk_trail.specs.declared.room.Room.{Room}
use Rattle.desk_trail.specs.Checks.{AtServer, IsCheckStream, IsDue, check_begins}
use Rattle.desk_trail.specs.Facts.{Lists}
use Rattle.desk_trail.specs.Facts as fact
use Rattle.desk_trail.specs.Legal.{Point}
use Rattle.desk_trail.specs.Owed as owed
use Rattle.desk_trail.specs.Requests.{id_at}
use Rattle.desk_trail.specs.States.{ClientState, ServerState}
use Rattle.desk_trail.specs.Written.{IsAtLeast, a_request, an_entry}
use Rattle.legal_trail.specs.Recorded.{Recorded}
use Rattle.wired_trail.specs.Lines.{KeepsOthers, line_at, with_unsent, IsThere}
use Rattle.desk_core.specs.Kept.{MayBegin}
use Rattle.desk_core.specs.Rests.{HasBegun}
use Rattle.desk_trail.specs.Streams.{Account}
use Rattle.wired_trail.specs.Hearing.{IsPlain, told_of}
use Rattle.desk_core.proofs.AppendsLemmas.{Appends-adds, Appends-room, Appends-trans, AreLonger-refl, AreLonger-requests, kept-by_begin, kept-by_hello}
use Rattle.desk_core.proofs.CheckLemmas.{Begins, IsBegun, IsBegun-by, IsKept-begun, StandsAt-began, StandsAt-hello}
use Rattle.desk_core.proofs.DropLemmas.{read-there}
use Rattle.desk_core.proofs.KeptLemmas.{IsKept-room}
use Rattle.desk_core.proofs.SightLemmas.{HasBegun-led}
use Rattle.desk_core.proofs.state.Core.begin_on.Goals as goal

pub invariant_of-self : goal.invariant_of-self
invariant_of-self g c =
    IsKept-room c.self.inside.wired c.reserve_beside.new.wired c.self.inside.topology.topology c.self.inside.servers.items c.self.inside.gossip c.self.inside.closings c.self.inside.last c.self.inside.stopped
    c.reserve_beside.ensures.same c.reserve_beside.ensures.kept c.self.invariant

pub returns-in_err-reserve_beside-clause-appends : goal.returns-in_err-reserve_beside-clause-appends
returns-in_err-reserve_beside-clause-appends g c =
    rw (← c.self.view_is)
    (Appends-room c.args.moment c.self.inside.wired.trail c.reserve_beside.new.wired.trail c.reserve_beside.new.wired.trail.room (ap (λ s. s.trail) c.reserve_beside.ensures.same))

pub append-requires-clause-stands : goal.append-requires-clause-stands
append-requires-clause-stands g c =
    let ready = rw (← c.self.view_is) at c.requires.begins.1 in
    let rest = c.requires.begins.0 in
    let due = rw (← c.self.view_is) at c.requires.due in
    let h = c.self.invariant.leads ready.runs in
    let point : c.reserve_beside.new.wired.trail.point ≡ c.self.inside.wired.trail.point = ap (λ s. s.trail.point) c.reserve_beside.ensures.same in
    let ahead : c.reserve_beside.new.wired.trail.point.moment ≡ c.self.inside.wired.trail.point.moment = ap (λ (p : Point). p.moment) point in
    let moment = h.moment in
    let now = ready.now in (
      fact.CheckBegan c.args.host c.args.stream,
      refl,
      StandsAt-began c.reserve_beside.new.wired.trail.client c.reserve_beside.new.wired.trail.point c.args.moment c.args.host c.args.stream rest
          (subst (λ (p : Point). MayBegin p c.args.moment c.args.host rest) (sym point) ready.turn) (omega arith)
          (ap (λ (p : Point). p.state.is_ending) point ∙ ap (λ (s : ClientState). s.is_ending) h.state)
          (subst (λ (p : Point). AtServer p.state c.args.host (λ s. IsDue c.args.moment s × IsCheckStream p.state s.check_stream c.args.stream)) (sym point)
          (due.0, due.1, (due.2.0, due.2.1))),
    )

pub ask-requires-clause-room : goal.ask-requires-clause-room
ask-requires-clause-room g c =
    let more : IsAtLeast (record { names = 0; events = 0; sessions = 0; requests = 1; steps = c.self.inside.closings + 2 }) c.reserve_beside.new.wired.trail.room =
    subst (λ (m : Room). IsAtLeast m c.reserve_beside.new.wired.trail.room) c.in_ok-room.ensures c.in_ok-reserve_beside.ensures.room in
    let u = (c.append.ensures.adds (fact.CheckBegan c.args.host c.args.stream) refl).room_used in
    let steps = more.steps in
    let requests = more.requests in
    let used_requests = u.requests in
    let used_steps = u.steps in
    record { names = omega arith; events = omega arith; sessions = omega arith; requests = omega arith; steps = omega arith }

pub ask-requires-clause-stands : goal.ask-requires-clause-stands
ask-requires-clause-stands g c =
    let ready = rw (← c.self.view_is) at c.requires.begins.1 in
    let rest = c.requires.begins.0 in
    let due = rw (← c.self.view_is) at c.requires.due in
    let h = c.self.invariant.leads ready.runs in
    let r : Recorded = c.reserve_beside.new.wired.trail in
    let same = c.reserve_beside.ensures.same in
    let point : r.point ≡ c.self.inside.wired.trail.point = ap (λ s. s.trail.point) same in
    let adds = c.append.ensures.adds (fact.CheckBegan c.args.host c.args.stream) refl in
    let b : IsBegun r c.append.new.self.trail c.args.moment c.args.host c.args.stream rest due.0 =
    IsBegun-by r c.append.new.self.trail c.args.moment c.args.host c.args.stream rest due.0 (entry_of.CheckBegan c.args.host c.args.stream) adds
    (ap (λ (p : Point). slice_get p.state.servers c.args.host) point ∙ due.1) (subst (λ (p : Point). MayBegin p c.args.moment c.args.host rest) (sym point) ready.turn) in
    StandsAt-hello c.append.new.self.trail.client c.append.new.self.trail.point c.args.moment c.args.host c.args.stream (length c.append.new.self.trail.lists.requests) c.args.first rest
    c.in_ok-request.request
    (b.owes ∙ ap (λ f. owed.Hello (purpose_of.Check c.args.host) c.args.stream f ∷ rest) (sym due.2.2))
    b.at
    (b.going ∙ ap (λ (p : Point). p.state.is_ending) point ∙ ap (λ (s : ClientState). s.is_ending) h.state)
    c.in_ok-request.ensures.hello
    (ap (λ (l : Lists). length l.requests) adds.lists_now ∙ ap (λ s. length s.trail.lists.requests) same ∙ sym (ap (λ (s : ClientState). s.requests) h.state)
    ∙ sym (ap (λ (p : Point). p.state.requests) point) ∙ sym b.requests)
    (c.in_ok-request.ensures.id
    ∙ ap (λ l. id_at (length l)) (c.requests-place.ensures.value ∙ sym (ap (λ s. s.trail.lists.requests) same) ∙ sym (ap (λ (l : Lists). l.requests) adds.lists_now)))

pub index_mut-server-requires : goal.index_mut-server-requires
index_mut-server-requires g c =
    let ready = rw (← c.self.view_is) at c.requires.begins.1 in
    let rest = c.requires.begins.0 in
    let due = rw (← c.self.view_is) at c.requires.due in
    let h = c.self.invariant.leads ready.runs in
    let there : slice_get c.self.inside.servers.items c.args.host ≡ Some due.0 = ap (λ (s : ClientState). slice_get s.servers c.args.host) (sym h.state) ∙ due.1 in
    let within = slice_get_within c.self.inside.servers.items c.args.host due.0 there in
    omega (arith, c.self.inside.servers.ok)

pub begin_check-requires-clause-stays : goal.begin_check-requires-clause-stays
begin_check-requires-clause-stays g c =
    let ready = rw (← c.self.view_is) at c.requires.begins.1 in
    let rest = c.requires.begins.0 in
    let due = rw (← c.self.view_is) at c.requires.due in
    let h = c.self.invariant.leads ready.runs in
    let there : slice_get c.self.inside.servers.items c.args.host ≡ Some due.0 = ap (λ (s : ClientState). slice_get s.servers c.args.host) (sym h.state) ∙ due.1 in
    let is : c.index_mut-server.result.now ≡ due.0 =
    read-there c.self.inside.servers.items c.args.host due.0 c.index_mut-server.result.now there c.index_mut-server.ensures.value in
    ap (λ (s : ServerState). s.has_left) is ∙ due.2.0.stays

pub begin_check-requires-clause-idle : goal.begin_check-requires-clause-idle
begin_check-requires-clause-idle g c =
    let ready = rw (← c.self.view_is) at c.requires.begins.1 in
    let rest = c.requires.begins.0 in
    let due = rw (← c.self.view_is) at c.requires.due in
    let h = c.self.invariant.leads ready.runs in
    let there : slice_get c.self.inside.servers.items c.args.host ≡ Some due.0 = ap (λ (s : ClientState). slice_get s.servers c.args.host) (sym h.state) ∙ due.1 in
    let is : c.index_mut-server.result.now ≡ due.0 =
    read-there c.self.inside.servers.items c.args.host due.0 c.index_mut-server.result.now there c.index_mut-server.ensures.value in
    ap (λ (s : ServerState). s.checks.began) is ∙ due.2.0.rests

pub invariant_of-self-2 : goal.invariant_of-self-2
invariant_of-self-2 g c =
    let ready = rw (← c.self.view_is) at c.requires.begins.1 in
    let rest = c.requires.begins.0 in
    let due = rw (← c.self.view_is) at c.requires.due in
    let line = rw (← c.self.view_is) at c.requires.line in
    let h = c.self.invariant.leads ready.runs in
    let r : Recorded = c.reserve_beside.new.wired.trail in
    let same = c.reserve_beside.ensures.same in
    let kept =
    IsKept-room c.self.inside.wired c.reserve_beside.new.wired c.self.inside.topology.topology c.self.inside.servers.items c.self.inside.gossip c.self.inside.closings c.self.inside.last c.self.inside.stopped
    same c.reserve_beside.ensures.kept c.self.invariant in
    let there : slice_get c.self.inside.servers.items c.args.host ≡ Some due.0 = ap (λ (s : ClientState). slice_get s.servers c.args.host) (sym h.state) ∙ due.1 in
    let is : c.index_mut-server.result.now ≡ due.0 =
    read-there c.self.inside.servers.items c.args.host due.0 c.index_mut-server.result.now there c.index_mut-server.ensures.value in
    let adds = c.append.ensures.adds (fact.CheckBegan c.args.host c.args.stream) refl in
    let hello = c.in_ok-request.ensures.hello in
    let q = c.in_ok-request.request in
    let lines : c.append.new.self.lines ≡ c.reserve_beside.new.wired.lines = ap (λ s. s.lines) c.append.ensures.same in
    let line_there : line_at c.reserve_beside.new.wired.lines c.args.stream ≡ Some line.0 = ap (λ s. line_at s.lines c.args.stream) same ∙ line.1 in
    let now_there : line_at c.ask.new.self.lines c.args.stream ≡ Some (with_unsent q.bytes line.0) =
    ap (line_at c.ask.new.self.lines) (sym hello.on) ∙ c.ask.ensures.queued
    ∙ ap (λ x. option_map (with_unsent q.bytes) (line_at c.append.new.self.lines x)) hello.on
    ∙ ap (λ l. option_map (with_unsent q.bytes) (line_at l c.args.stream)) lines ∙ ap (option_map (with_unsent q.bytes)) line_there in
    let others : KeepsOthers c.args.stream c.reserve_beside.new.wired.lines c.ask.new.self.lines =
    λ other n. c.ask.ensures.others other (λ (e : other ≡ q.stream). n (e ∙ hello.on)) ∙ ap (λ l. line_at l other) lines in
    let both : Begins r c.append.new.self.trail c.ask.new.self.trail c.args.moment c.args.host c.args.stream = record {
      place = length c.append.new.self.trail.lists.requests;
      begin = entry_of.CheckBegan c.args.host c.args.stream;
      ask = entry_of.Asked (length c.append.new.self.trail.lists.requests);
      request = q;
      is_for = hello.is_for;
      began = adds;
      asked = c.ask.ensures.adds;
    } in
    let more : IsAtLeast (record { names = 0; events = 0; sessions = 0; requests = 1; steps = c.self.inside.closings + 2 }) r.room =
    subst (λ (m : Room). IsAtLeast m r.room) c.in_ok-room.ensures c.in_ok-reserve_beside.ensures.room in
    let steps = more.steps in
    let used_first = adds.room_used.steps in
    let used_then = c.ask.ensures.adds.room_used.steps in
    IsKept-begun r c.append.new.self.trail c.ask.new.self.trail c.reserve_beside.new.wired.lines c.ask.new.self.lines c.self.inside.topology.topology c.self.inside.servers.items c.self.inside.gossip
    c.self.inside.closings c.self.inside.last c.args.moment c.args.host c.args.stream c.self.inside.stopped due.0 c.begin_check.new.self line.0 (with_unsent q.bytes line.0) both there
    due.2.0.stays line_there line.2 now_there line.2 others ready.now (omega arith) (c.begin_check.ensures.begins ∙ ap (check_begins c.args.moment c.args.stream) is) kept

pub returns-clause-ok : goal.returns-clause-ok
returns-clause-ok g c = λ rest begins.
    let ready = rw (← c.self.view_is) at begins in
    let due = rw (← c.self.view_is) at c.requires.due in
    let r : Recorded = c.reserve_beside.new.wired.trail in
    let point : r.point ≡ c.self.inside.wired.trail.point = ap (λ s. s.trail.point) c.reserve_beside.ensures.same in
    let adds = c.append.ensures.adds (fact.CheckBegan c.args.host c.args.stream) refl in
    let b : IsBegun r c.append.new.self.trail c.args.moment c.args.host c.args.stream rest due.0 =
    IsBegun-by r c.append.new.self.trail c.args.moment c.args.host c.args.stream rest due.0 (entry_of.CheckBegan c.args.host c.args.stream) adds
    (ap (λ (p : Point). slice_get p.state.servers c.args.host) point ∙ due.1) (subst (λ (p : Point). MayBegin p c.args.moment c.args.host rest) (sym point) ready.turn) in
    let more : IsAtLeast (record { names = 0; events = 0; sessions = 0; requests = 1; steps = c.self.inside.closings + 2 }) r.room =
    subst (λ (m : Room). IsAtLeast m r.room) c.in_ok-room.ensures c.in_ok-reserve_beside.ensures.room in
    let steps = more.steps in
    let used_first = adds.room_used.steps in
    let used_then = c.ask.ensures.adds.room_used.steps in
    record {
      runs = ready.runs;
      owes = ap (λ (p : Point). p.owed) c.ask.ensures.adds.point_now ∙ ap (drop 1) b.owes;
      at = ap (λ (p : Point). p.moment) c.ask.ensures.adds.point_now;
      now = ready.now;
      space = omega arith;
    }

pub returns-clause-appends : goal.returns-clause-appends
returns-clause-appends g c =
    let old : Recorded = c.self.inside.wired.trail in
    let r : Recorded = c.reserve_beside.new.wired.trail in
    let between : Recorded = c.append.new.self.trail in
    let new : Recorded = c.ask.new.self.trail in
    let q = c.in_ok-request.request in
    rw (← c.self.view_is)
    (Appends-trans c.args.moment old r new (Appends-room c.args.moment old r r.room (ap (λ s. s.trail) c.reserve_beside.ensures.same))
    (Appends-trans c.args.moment r between new
    (Appends-adds an_entry r.lists c.args.moment (entry_of.CheckBegan c.args.host c.args.stream) (fact.CheckBegan c.args.host c.args.stream) r between (AreLonger-refl r.lists)
    (c.append.ensures.adds (fact.CheckBegan c.args.host c.args.stream) refl) (λ e. absurd (cc)) (kept-by_begin r.client c.args.moment r.point.state c.args.host c.args.stream))
    (Appends-adds a_request _ c.args.moment (entry_of.Asked (length between.lists.requests)) (fact.Asked (length between.lists.requests) q) between new
    (AreLonger-requests between.lists (q ∷ [])) c.ask.ensures.adds (λ e. absurd (cc)) (kept-by_hello between.client c.args.moment between.point.state (length between.lists.requests) c.args.host q c.in_ok-request.ensures.hello.is_for))))

pub returns-clause-begins : goal.returns-clause-begins
returns-clause-begins g c =
    let ready = rw (← c.self.view_is) at c.requires.begins.1 in
    let rest = c.requires.begins.0 in
    let due = rw (← c.self.view_is) at c.requires.due in
    let line = rw (← c.self.view_is) at c.requires.line in
    let h = c.self.invariant.leads ready.runs in
    let r : Recorded = c.reserve_beside.new.wired.trail in
    let same = c.reserve_beside.ensures.same in
    let kept =
    IsKept-room c.self.inside.wired c.reserve_beside.new.wired c.self.inside.topology.topology c.self.inside.servers.items c.self.inside.gossip c.self.inside.closings c.self.inside.last c.self.inside.stopped
    same c.reserve_beside.ensures.kept c.self.invariant in
    let there : slice_get c.self.inside.servers.items c.args.host ≡ Some due.0 = ap (λ (s : ClientState). slice_get s.servers c.args.host) (sym h.state) ∙ due.1 in
    let is : c.index_mut-server.result.now ≡ due.0 =
    read-there c.self.inside.servers.items c.args.host due.0 c.index_mut-server.result.now there c.index_mut-server.ensures.value in
    let adds = c.append.ensures.adds (fact.CheckBegan c.args.host c.args.stream) refl in
    let hello = c.in_ok-request.ensures.hello in
    let q = c.in_ok-request.request in
    let lines : c.append.new.self.lines ≡ c.reserve_beside.new.wired.lines = ap (λ s. s.lines) c.append.ensures.same in
    let line_there : line_at c.reserve_beside.new.wired.lines c.args.stream ≡ Some line.0 = ap (λ s. line_at s.lines c.args.stream) same ∙ line.1 in
    let now_there : line_at c.ask.new.self.lines c.args.stream ≡ Some (with_unsent q.bytes line.0) =
    ap (line_at c.ask.new.self.lines) (sym hello.on) ∙ c.ask.ensures.queued
    ∙ ap (λ x. option_map (with_unsent q.bytes) (line_at c.append.new.self.lines x)) hello.on
    ∙ ap (λ l. option_map (with_unsent q.bytes) (line_at l c.args.stream)) lines ∙ ap (option_map (with_unsent q.bytes)) line_there in
    let others : KeepsOthers c.args.stream c.reserve_beside.new.wired.lines c.ask.new.self.lines =
    λ other n. c.ask.ensures.others other (λ (e : other ≡ q.stream). n (e ∙ hello.on)) ∙ ap (λ l. line_at l other) lines in
    let both : Begins r c.append.new.self.trail c.ask.new.self.trail c.args.moment c.args.host c.args.stream = record {
      place = length c.append.new.self.trail.lists.requests;
      begin = entry_of.CheckBegan c.args.host c.args.stream;
      ask = entry_of.Asked (length c.append.new.self.trail.lists.requests);
      request = q;
      is_for = hello.is_for;
      began = adds;
      asked = c.ask.ensures.adds;
    } in
    let more : IsAtLeast (record { names = 0; events = 0; sessions = 0; requests = 1; steps = c.self.inside.closings + 2 }) r.room =
    subst (λ (m : Room). IsAtLeast m r.room) c.in_ok-room.ensures c.in_ok-reserve_beside.ensures.room in
    let steps = more.steps in
    let used_first = adds.room_used.steps in
    let used_then = c.ask.ensures.adds.room_used.steps in
    let now =
    IsKept-begun r c.append.new.self.trail c.ask.new.self.trail c.reserve_beside.new.wired.lines c.ask.new.self.lines c.self.inside.topology.topology c.self.inside.servers.items c.self.inside.gossip
    c.self.inside.closings c.self.inside.last c.args.moment c.args.host c.args.stream c.self.inside.stopped due.0 c.begin_check.new.self line.0 (with_unsent q.bytes line.0) both there
    due.2.0.stays line_there line.2 now_there line.2 others ready.now (omega arith) (c.begin_check.ensures.begins ∙ ap (check_begins c.args.moment c.args.stream) is) kept in
    let point : r.point ≡ c.self.inside.wired.trail.point = ap (λ s. s.trail.point) same in
    rw (← c.self.view_is)
    (subst (λ (p : Point). HasBegun p.state c.ask.new.self.trail.point.state c.args.host) point
    (HasBegun-led r c.ask.new.self.trail c.reserve_beside.new.wired.lines c.ask.new.self.lines c.self.inside.topology.topology c.self.inside.servers.items c.self.inside.gossip c.self.inside.last
    c.args.moment c.args.host c.args.stream due.0 c.begin_check.new.self (kept.leads ready.runs) (now.leads ready.runs) there
    (c.begin_check.ensures.begins ∙ ap (check_begins c.args.moment c.args.stream) is) due.2.0.stays))

pub append-requires-clause-plain : goal.append-requires-clause-plain
append-requires-clause-plain g c = λ told is.
    let line = rw (← c.self.view_is) at c.requires.line in
    let same : fact.CheckBegan c.args.host c.args.stream ≡ told = cc in
    let there : IsThere c.self.inside.wired.lines c.args.stream = record { line = line.0; there = line.1 } in
    subst (IsPlain c.reserve_beside.new.wired.lines) same (subst (λ l. IsThere l c.args.stream) (sym (ap (λ s. s.lines) c.reserve_beside.ensures.same)) there)

pub ask-requires-clause-free : goal.ask-requires-clause-free
ask-requires-clause-free g c = λ tells.
    let before = rw (← c.self.view_is) at (c.in_ok-check_free.ensures.free tells) in
    let free : (told_of c.reserve_beside.new.wired.trail c.args.stream).last ≡ None =
    subst (λ (t : Recorded). (told_of t c.args.stream).last ≡ None) (sym (ap (λ s. s.trail) c.reserve_beside.ensures.same)) before in
    subst (λ s. (told_of c.append.new.self.trail s).last ≡ None) (sym c.in_ok-request.ensures.hello.on) (ap (λ (a : Account). a.last) (c.append.ensures.silent c.args.stream) ∙ free)
