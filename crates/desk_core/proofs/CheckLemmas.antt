-- What a desk keeps stays so behind the beginning and the end of a check, and behind a cluster time.
use Rattle.std.proofs.Common.{◌≡◌, ◌≢◌, ◌≤◌, ◌<◌, ℕ, ◌+◌, Bool, true, false, not, List, [], ◌∷◌, ◌++◌, length, Option, None, Some, refl, sym, ap, ◌∙◌, subst, arith}
use Rattle.std.specs.Prelude.{IfSome, drop, is_some, slice_get, slice_set, nat_lt}
use Rattle.std.specs.Option.{option_map, option_map_or}
use Rattle.std.proofs.lemmas.Bool.{ltb-true}
use Rattle.std.proofs.lemmas.List.{length-append, length-set}
use Rattle.bson_doc.specs.declared.cluster_time.ClusterTime.{ClusterTime}
use Rattle.host_name.specs.Addresses.{Address}
use Rattle.pool_book.specs.Pool.{is_closed}
use Rattle.topo_book.specs.Means.{stands_known}
use Rattle.topo_rules.specs.declared.event.TopoEvent.{TopoEvent}
use Rattle.topo_rules.specs.declared.event.TopoEvent.TheVariants as event
use Rattle.topo_rules.specs.declared.topology.Topology.{Topology}
use Rattle.time_gossip.specs.Times.{greater}
use Rattle.msg_wire.specs.declared.message.Message.{Message}
use Rattle.net_link.specs.declared.event.NetEvent.{NetEvent}
use Rattle.desk_wire.specs.Pull.{pull_shuts}
use Rattle.desk_wire.specs.declared.answers.Pulled.{Pulled}
use Rattle.desk_wire.specs.declared.answers.Pulled.TheVariants as pulled
use Rattle.desk_trail.specs.declared.entry.CheckHow.{CheckHow}
use Rattle.desk_trail.specs.declared.entry.CheckHow.TheVariants as how
use Rattle.desk_trail.specs.declared.entry.Entry.{Entry}
use Rattle.desk_trail.specs.declared.request.Purpose.{Purpose}
use Rattle.desk_trail.specs.declared.request.Purpose.TheVariants as purpose
use Rattle.desk_trail.specs.declared.request.Request.{Request}
use Rattle.desk_trail.specs.Attempts.{CommandAllows, asked_by, asked_event, commands_after}
use Rattle.desk_trail.specs.Checks.{AtServer, IsCheckStream, IsDue, MayCheckEnd, Runs, check_begins, check_ends, is_known_by, kept_at, kept_stream, offered_of, stream_kept, stream_taken}
use Rattle.desk_trail.specs.Clients.{Client, connect_limit}
use Rattle.desk_trail.specs.Facts.{Lists}
use Rattle.desk_trail.specs.Facts as fact
use Rattle.desk_trail.specs.Legal.{Exceeds, InTime, MayGoOn, Point, StandsAt, client_after}
use Rattle.desk_trail.specs.Owed.{InTurn, IsHello, Owed}
use Rattle.desk_trail.specs.Owed as owed
use Rattle.desk_trail.specs.Requests.{IsFor, farewell_by, id_at}
use Rattle.desk_trail.specs.States.{ClientState, ServerState, changed_at, with_server}
use Rattle.desk_trail.specs.Topologies.{asks_of}
use Rattle.desk_trail.specs.Written.{a_request, an_entry}
use Rattle.legal_trail.specs.Recorded.{Adds, Recorded}
use Rattle.wired_trail.specs.Lines.{KeepsOthers, Lines, line_at}
use Rattle.wired_trail.specs.Turns.{Turns, line_behind}
use Rattle.wired_trail.specs.declared.lines.Line.{Line}
use Rattle.wired_trail.specs.declared.stream_use.StreamUse.TheVariants as for_use
use Rattle.desk_core.specs.Driven.{IsKeptIdle, IsStillUsed}
use Rattle.desk_core.specs.Ends.{IsEndBy, IsWhole}
use Rattle.desk_core.specs.Follows.{IsToOffer}
use Rattle.desk_core.specs.Kept.{IsKept, IsReady, IsToBegin, IsWriting, LeadsTo, MayBegin, at_will, client_of, in_turn}
use Rattle.desk_core.specs.Servers.{AreKeptServers, HasStream, IsKeptServer, closing_of, closings}
use Rattle.desk_core.specs.State.{Core}
use Rattle.desk_core.proofs.KeptLemmas.{length-with_entry, restated, servers-of}
use Rattle.desk_core.proofs.ServerLemmas.{AreKeptServers-closed, AreKeptServers-more, AreKeptServers-set, closing_of-kept, closings-set_kept, map-set}

-- ---- Entries that change one server

-- the client changes in one server, in the streams that were dialled and in the count of requests alone
pub record Changes (old new : Recorded) (k : ℕ) (t : ServerState) : Type 0 where
  pub client : new.client ≡ old.client
  pub names : new.lists.names ≡ old.lists.names
  pub events : new.lists.events ≡ old.lists.events
  pub state : new.point.state ≡ record old.point.state {
    servers = slice_set old.point.state.servers k t;
    streams = new.point.state.streams;
    requests = new.point.state.requests;
  }
  pub time : new.point.time ≡ old.point.time

pub LeadsTo-changes : (old new : Recorded) (before lines : Lines) (topology : Topology) (ss : List ServerState) (time : Option ClusterTime) (last k : ℕ) (s t : ServerState) →
    Changes old new k t → new.point.state.requests ≡ length new.lists.requests → slice_get ss k ≡ Some s → t.address ≡ s.address → closing_of t ≡ closing_of s →
    new.point.moment ≤ last → closings ss ≤ new.room.steps → AreKeptServers lines (length new.steps) (slice_set ss k t) → LeadsTo old before topology ss time last →
    LeadsTo new lines topology (slice_set ss k t) time last
LeadsTo-changes old new before lines topology ss time last k s t m requests there address closing moment room kept h = record {
  state =
      restated new (record (client_of old topology ss) { servers = slice_set ss k t; streams = new.point.state.streams; requests = new.point.state.requests })
      (length old.lists.events) new.point.state.requests topology (slice_set ss k t)
      (m.state ∙ ap (λ (w : ClientState). record w { servers = slice_set w.servers k t; streams = new.point.state.streams; requests = new.point.state.requests }) h.state)
      refl (ap length (sym m.events)) requests;
  greatest = m.time ∙ h.greatest;
  moment = moment;
  names = m.names ∙ h.names ∙ sym (map-set (λ (u : ServerState). u.address) ss k t s there address);
  numbers = rw (length-set ss k t) h.numbers;
  room = rw (closings-set_kept ss k s t there closing) room;
  kept = kept;
}

changed-there : (w : ClientState) (k : ℕ) (s : ServerState) (f : ServerState → ServerState) → slice_get w.servers k ≡ Some s →
    with_server w k f ≡ record w { servers = slice_set w.servers k (f s) }
changed-there w k s f there = ap (λ o. record w { servers = changed_at w.servers k o f }) there

-- ---- A check begins

length-one : {A : Type 0} (xs : List A) (x : A) → length (xs ++ x ∷ []) ≡ length xs + 1
length-one xs x = rw (length-append xs) refl

with_stream_taken : (w : ClientState) (o : Option ℕ) (stream k : ℕ) (s : ServerState) (f : ServerState → ServerState) → slice_get w.servers k ≡ Some s →
    with_server (stream_taken o stream w) k f ≡ record w { servers = slice_set w.servers k (f s); streams = (stream_taken o stream w).streams }
with_stream_taken w None stream k s f there = changed-there (stream_taken None stream w) k s f there
with_stream_taken w (Some kept) stream k s f there = changed-there w k s f there

asked_state : (client : Client) (moment k place : ℕ) (w : ClientState) (r : Request) → r.purpose ≡ purpose.Check k →
    client_after client moment w (fact.Asked place r) ≡ record w { requests = w.requests + 1 }
asked_state client moment k place w r for =
    ap (λ (p : Purpose). commands_after (asked_event p) (asked_by moment p (farewell_by p r.stream (record w { requests = w.requests + 1 })))) for

-- a check's two entries: it begins on a stream, and its hello is asked
pub record Begins (old between new : Recorded) (moment k stream : ℕ) : Type 0 where
  pub place : ℕ
  pub begin : Entry
  pub ask : Entry
  pub request : Request
  pub is_for : request.purpose ≡ purpose.Check k
  pub began : Adds an_entry old.lists moment begin (fact.CheckBegan k stream) old between
  pub asked : Adds a_request (record between.lists { requests = between.lists.requests ++ request ∷ [] }) moment ask (fact.Asked place request) between new

Changes-begun : (old between new : Recorded) (moment k stream : ℕ) (s : ServerState) → Begins old between new moment k stream → slice_get old.point.state.servers k ≡ Some s →
    Changes old new k (check_begins moment stream s) × (new.point.state.requests ≡ old.point.state.requests + 1)
Changes-begun old between new moment k stream s b there =
    let w : ClientState = old.point.state in
    let first : between.point.state ≡ record w { servers = slice_set w.servers k (check_begins moment stream s); streams = (stream_taken (kept_at w k) stream w).streams } =
    ap (λ (p : Point). p.state) b.began.point_now ∙ with_stream_taken w (kept_at w k) stream k s (check_begins moment stream) there in
    let both : new.point.state ≡ record w {
      servers = slice_set w.servers k (check_begins moment stream s);
      streams = (stream_taken (kept_at w k) stream w).streams;
      requests = w.requests + 1;
    } =
    ap (λ (p : Point). p.state) b.asked.point_now ∙ asked_state between.client moment k b.place between.point.state b.request b.is_for
    ∙ ap (λ (v : ClientState). record v { requests = v.requests + 1 }) first in (
      record {
        client = b.asked.same_client ∙ b.began.same_client;
        names = ap (λ (l : Lists). l.names) b.asked.lists_now ∙ ap (λ (l : Lists). l.names) b.began.lists_now;
        events = ap (λ (l : Lists). l.events) b.asked.lists_now ∙ ap (λ (l : Lists). l.events) b.began.lists_now;
        state =
            both
            ∙ ap (λ (v : ClientState). record w { servers = slice_set w.servers k (check_begins moment stream s); streams = v.streams; requests = v.requests }) (sym both);
        time = ap (λ (p : Point). p.time) b.asked.point_now ∙ ap (λ (p : Point). p.time) b.began.point_now;
      },
      ap (λ (v : ClientState). v.requests) both,
    )

pub LeadsTo-begun : (old between new : Recorded) (before lines : Lines) (topology : Topology) (ss : List ServerState) (time : Option ClusterTime) (last moment k stream : ℕ)
    (s : ServerState) (line now : Line) →
    Begins old between new moment k stream → slice_get ss k ≡ Some s → s.has_left ≡ false → line_at before stream ≡ Some line → line.is_for ≡ for_use.Check k →
    line_at lines stream ≡ Some now → now.is_for ≡ for_use.Check k → KeepsOthers stream before lines → moment ≤ last → closings ss ≤ new.room.steps →
    LeadsTo old before topology ss time last → LeadsTo new lines topology (slice_set ss k (check_begins moment stream s)) time last
LeadsTo-begun old between new before lines topology ss time last moment k stream s line now b there stays line_there is_for now_there now_is_for others at room h =
    let servers = servers-of old before topology ss time last h in
    let m = Changes-begun old between new moment k stream s b (ap (λ zs. slice_get zs k) servers ∙ there) in
    let steps : length new.steps ≡ length old.steps + 1 + 1 =
    ap length b.asked.steps_now ∙ length-with_entry between.steps moment b.ask ∙ ap (λ n. n + 1) (ap length b.began.steps_now ∙ length-with_entry old.steps moment b.begin) in
    let requests : length new.lists.requests ≡ length old.lists.requests + 1 =
    ap (λ (l : Lists). length l.requests) b.asked.lists_now ∙ length-one between.lists.requests b.request
    ∙ ap (λ (l : Lists). length l.requests + 1) b.began.lists_now in
    let counted : old.point.state.requests ≡ length old.lists.requests = ap (λ (w : ClientState). w.requests) h.state in
    let kept = h.kept k s there in
    let moment_now : new.point.moment ≡ moment = ap (λ (p : Point). p.moment) b.asked.point_now in
    LeadsTo-changes old new before lines topology ss time last k s (check_begins moment stream s) m.0 (m.1 ∙ ap (λ n. n + 1) counted ∙ sym requests) there refl refl
    (omega arith) room
    (AreKeptServers-closed before lines (length new.steps) ss k stream (check_begins moment stream s) line line_there is_for others
    (AreKeptServers-more before (length old.steps) (length new.steps) ss (omega arith) h.kept)
    (record {
      paid = kept.paid;
      is_open = kept.is_open;
      generation = let g = kept.generation in omega arith;
      entered = let g = kept.entered in omega arith;
      checked = (now, now_there, now_is_for, λ (e : Some moment ≡ None). absurd (cc));
      paced = kept.paced;
    }))
    h

-- ---- A check ends

-- how a server is behind the end of a check of it
pub record IsRested (h : CheckHow) (s t : ServerState) : Type 0 where
  pub address : t.address ≡ s.address
  pub left : t.has_left ≡ s.has_left
  pub pool : t.pool ≡ s.pool
  pub began : t.checks.began ≡ None
  pub beat : t.checks.beat ≡ s.checks.beat
  pub stream : (h ≡ how.NoDial → s.check_stream ≡ None) → t.check_stream ≡ kept_stream h s.check_stream

pub IsRested-ended : (moment : ℕ) (h : CheckHow) (known : Bool) (s : ServerState) → IsRested h s (check_ends moment h known s)
IsRested-ended moment (how.Reply sample) known s = record { address = refl; left = refl; pool = refl; began = refl; beat = refl; stream = λ n. refl }
IsRested-ended moment (how.Refused code) known s = record { address = refl; left = refl; pool = refl; began = refl; beat = refl; stream = λ n. refl }
IsRested-ended moment how.Cut known s = record { address = refl; left = refl; pool = refl; began = refl; beat = refl; stream = λ n. refl }
IsRested-ended moment how.Fault known s = record { address = refl; left = refl; pool = refl; began = refl; beat = refl; stream = λ n. refl }
IsRested-ended moment how.Late known s = record { address = refl; left = refl; pool = refl; began = refl; beat = refl; stream = λ n. refl }
IsRested-ended moment (how.Bad at) known s = record { address = refl; left = refl; pool = refl; began = refl; beat = refl; stream = λ n. refl }
IsRested-ended moment how.NoDial known s = record { address = refl; left = refl; pool = refl; began = refl; beat = refl; stream = λ n. n refl }

closing-ended : (moment : ℕ) (h : CheckHow) (known : Bool) (s : ServerState) → closing_of (check_ends moment h known s) ≡ closing_of s
closing-ended moment h known s =
    let is = IsRested-ended moment h known s in
    closing_of-kept s (check_ends moment h known s) is.left (ap (λ p. length p.state.available) is.pool)

-- the server has its stream behind it: none, or one on which all is sent
pub data EndsOn (lines : Lines) (k : ℕ) (h : CheckHow) (o : Option ℕ) : Type 0 where
  none_kept : kept_stream h o ≡ None → EndsOn lines k h o
  one_kept : (stream : ℕ) (line : Line) → o ≡ Some stream → line_at lines stream ≡ Some line → line.is_for ≡ for_use.Check k → line.wire.unsent ≡ [] → EndsOn lines k h o

HasStream-ended : (lines : Lines) (k : ℕ) (h : CheckHow) (o : Option ℕ) → EndsOn lines k h o → HasStream lines k None (kept_stream h o)
HasStream-ended lines k (how.Reply sample) o (none_kept e) = subst (λ p. HasStream lines k None p) (sym e) refl
HasStream-ended lines k (how.Reply sample) o (one_kept stream line e there is_for sent) = subst (λ p. HasStream lines k None p) (sym e) (line, there, is_for, λ n. sent)
HasStream-ended lines k (how.Refused code) o x = refl
HasStream-ended lines k how.Cut o x = refl
HasStream-ended lines k how.Fault o x = refl
HasStream-ended lines k how.Late o x = refl
HasStream-ended lines k (how.Bad at) o x = refl
HasStream-ended lines k how.NoDial o x = refl

IsKeptServer-ended : (old lines : Lines) (m n k moment : ℕ) (h : CheckHow) (known : Bool) (s : ServerState) → m ≤ n → (h ≡ how.NoDial → s.check_stream ≡ None) →
    EndsOn lines k h s.check_stream → IsKeptServer old m k s → IsKeptServer lines n k (check_ends moment h known s)
IsKeptServer-ended old lines m n k moment h known s more none on kept =
    let t : ServerState = check_ends moment h known s in
    let is = IsRested-ended moment h known s in
    record {
      paid = ap (λ p. p.owed) is.pool ∙ kept.paid;
      is_open = λ stays. ap (λ p. is_closed p.state.state) is.pool ∙ kept.is_open (sym is.left ∙ stays);
      generation = let g = kept.generation in let e : t.pool.state.generation ≡ s.pool.state.generation = ap (λ p. p.state.generation) is.pool in omega arith;
      entered = let g = kept.entered in let e : t.pool.state.entered ≡ s.pool.state.entered = ap (λ p. p.state.entered) is.pool in omega arith;
      checked =
          subst (λ b. HasStream lines k b t.check_stream) (sym is.began)
          (subst (λ o. HasStream lines k None o) (sym (is.stream none)) (HasStream-ended lines k h s.check_stream on));
      paced = subst (λ n. 0 < n) (sym is.beat) kept.paced;
    }

pub Changes-ended : (old new : Recorded) (moment k : ℕ) (h : CheckHow) (s : ServerState) (e : Entry) → Adds an_entry old.lists moment e (fact.CheckEnded k h) old new →
    slice_get old.point.state.servers k ≡ Some s → Changes old new k (check_ends moment h (stands_known old.point.state.topology s.address) s)
    × (new.point.state.requests ≡ old.point.state.requests)
Changes-ended old new moment k h s e adds there =
    let w : ClientState = old.point.state in
    let t : ServerState = check_ends moment h (stands_known w.topology s.address) s in
    let is : new.point.state ≡ record w { servers = slice_set w.servers k t } =
    ap (λ (p : Point). p.state) adds.point_now
    ∙ ap (λ (o : Option ServerState). record w { servers = changed_at w.servers k o (check_ends moment h (is_known_by w o)) }) there in (
      record {
        client = adds.same_client;
        names = ap (λ (l : Lists). l.names) adds.lists_now;
        events = ap (λ (l : Lists). l.events) adds.lists_now;
        state = is ∙ ap (λ (v : ClientState). record w { servers = slice_set w.servers k t; streams = v.streams; requests = v.requests }) (sym is);
        time = ap (λ (p : Point). p.time) adds.point_now;
      },
      ap (λ (v : ClientState). v.requests) is,
    )

-- where other streams' lines are as they were, or all are
pub data OnlyAt (k : ℕ) (before lines : Lines) : Type 0 where
  all_same : lines ≡ before → OnlyAt k before lines
  others_same : (stream : ℕ) (line : Line) → line_at before stream ≡ Some line → line.is_for ≡ for_use.Check k → KeepsOthers stream before lines → OnlyAt k before lines

AreKeptServers-only : (before lines : Lines) (n k : ℕ) (ss : List ServerState) (t : ServerState) → OnlyAt k before lines → AreKeptServers before n ss →
    IsKeptServer lines n k t → AreKeptServers lines n (slice_set ss k t)
AreKeptServers-only before lines n k ss t (all_same e) kept one =
    subst (λ (l : Lines). AreKeptServers l n (slice_set ss k t)) (sym e)
    (AreKeptServers-set before n ss k t kept (subst (λ (l : Lines). IsKeptServer l n k t) e one))
AreKeptServers-only before lines n k ss t (others_same stream line there is_for others) kept one =
    AreKeptServers-closed before lines n ss k stream t line there is_for others kept one

pub LeadsTo-ended : (old new : Recorded) (before lines : Lines) (topology : Topology) (ss : List ServerState) (time : Option ClusterTime) (last moment k : ℕ) (h : CheckHow)
    (s : ServerState) (e : Entry) →
    Adds an_entry old.lists moment e (fact.CheckEnded k h) old new → slice_get ss k ≡ Some s → (h ≡ how.NoDial → s.check_stream ≡ None) → EndsOn lines k h s.check_stream →
    OnlyAt k before lines → moment ≤ last → closings ss ≤ new.room.steps → LeadsTo old before topology ss time last →
    LeadsTo new lines topology (slice_set ss k (check_ends moment h (stands_known topology s.address) s)) time last
LeadsTo-ended old new before lines topology ss time last moment k h s e adds there none on only at room l =
    let servers = servers-of old before topology ss time last l in
    let same : old.point.state.topology ≡ topology = ap (λ (w : ClientState). w.topology) l.state in
    let m = subst (λ (y : Topology). Changes old new k (check_ends moment h (stands_known y s.address) s) × (new.point.state.requests ≡ old.point.state.requests)) same
    (Changes-ended old new moment k h s e adds (ap (λ zs. slice_get zs k) servers ∙ there)) in
    let t : ServerState = check_ends moment h (stands_known topology s.address) s in
    let is = IsRested-ended moment h (stands_known topology s.address) s in
    let steps : length new.steps ≡ length old.steps + 1 = ap length adds.steps_now ∙ length-with_entry old.steps moment e in
    let counted : old.point.state.requests ≡ length old.lists.requests = ap (λ (w : ClientState). w.requests) l.state in
    let moment_now : new.point.moment ≡ moment = ap (λ (p : Point). p.moment) adds.point_now in
    LeadsTo-changes old new before lines topology ss time last k s t m.0 (m.1 ∙ counted ∙ ap (λ (x : Lists). length x.requests) (sym adds.lists_now)) there is.address
    (closing-ended moment h (stands_known topology s.address) s)
    (omega arith) room
    (AreKeptServers-only before lines (length new.steps) k ss t only (AreKeptServers-more before (length old.steps) (length new.steps) ss (omega arith) l.kept)
    (IsKeptServer-ended before lines (length old.steps) (length new.steps) k moment h (stands_known topology s.address) s (omega arith) none on (l.kept k s there)))
    l

-- ---- A new stream

-- where a stream is dialled, all that was in use is as it was
HasStream-dialled : (old new : Lines) (stream x : ℕ) (began o : Option ℕ) → line_at old stream ≡ None → KeepsOthers stream old new → HasStream old x began o → HasStream new x began o
HasStream-dialled old new stream x began None free others h = h
HasStream-dialled old new stream x began (Some other) free others h =
    let differ : other ≢ stream = λ (e : other ≡ stream). let same : Some h.0 ≡ None = sym h.1 ∙ ap (line_at old) e ∙ free in absurd (cc) in
    (h.0, others other differ ∙ h.1, h.2, h.3)

pub LeadsTo-dialled : (trail : Recorded) (old new : Lines) (topology : Topology) (ss : List ServerState) (time : Option ClusterTime) (last stream : ℕ) →
    line_at old stream ≡ None → KeepsOthers stream old new → LeadsTo trail old topology ss time last → LeadsTo trail new topology ss time last
LeadsTo-dialled trail old new topology ss time last stream free others h = record {
  state = h.state;
  greatest = h.greatest;
  moment = h.moment;
  names = h.names;
  numbers = h.numbers;
  room = h.room;
  kept = λ x s there.
      let k = h.kept x s there in
      record {
        paid = k.paid;
        is_open = k.is_open;
        generation = k.generation;
        entered = k.entered;
        checked = HasStream-dialled old new stream x s.checks.began s.check_stream free others k.checked;
        paced = k.paced;
      };
}

-- ---- A cluster time

pub LeadsTo-told : (old new : Recorded) (lines : Lines) (topology : Topology) (ss : List ServerState) (time now : Option ClusterTime) (came : ClusterTime) (last moment : ℕ) (e : Entry) →
    Adds an_entry old.lists moment e (fact.Time came.stamp) old new → now ≡ Some came → moment ≤ last → closings ss ≤ new.room.steps →
    LeadsTo old lines topology ss time last → LeadsTo new lines topology ss now last
LeadsTo-told old new lines topology ss time now came last moment e adds is at room h =
    let state : new.point.state ≡ old.point.state = ap (λ (p : Point). p.state) adds.point_now in
    let steps : length new.steps ≡ length old.steps + 1 = ap length adds.steps_now ∙ length-with_entry old.steps moment e in
    let moment_now : new.point.moment ≡ moment = ap (λ (p : Point). p.moment) adds.point_now in
    record {
      state =
          restated new (client_of old topology ss) (length old.lists.events) (length old.lists.requests) topology ss (state ∙ h.state) refl
          (ap (λ (l : Lists). length l.events) (sym adds.lists_now)) (ap (λ (l : Lists). length l.requests) (sym adds.lists_now));
      greatest = ap (λ (p : Point). p.time) adds.point_now ∙ ap (λ (o : Option ClusterTime). option_map (λ (t : ClusterTime). t.stamp) o) (sym is);
      moment = omega arith;
      names = ap (λ (l : Lists). l.names) adds.lists_now ∙ h.names;
      numbers = h.numbers;
      room = room;
      kept = AreKeptServers-more lines (length old.steps) (length new.steps) ss (omega arith) h.kept;
    }

-- a stamp exceeds that of the time that is kept
abbrev pub exceeds : ℕ → Option ClusterTime → Bool
exceeds stamp kept = option_map_or (λ (t : ClusterTime). nat_lt t.stamp stamp) kept true

pub Exceeds-kept : (kept : Option ClusterTime) (stamp : ℕ) → exceeds stamp kept ≡ true → Exceeds stamp (option_map (λ (t : ClusterTime). t.stamp) kept)
Exceeds-kept None stamp h = tt
Exceeds-kept (Some t) stamp h = ltb-true t.stamp stamp h

pub greater-exceeds : (kept : Option ClusterTime) (came : ClusterTime) → exceeds came.stamp kept ≡ true → greater kept came ≡ Some came
greater-exceeds None came h = refl
greater-exceeds (Some t) came h = rw h refl

-- ---- By what a check ends

-- a check that ends by what the net gave, may end so
pub MayEnd-by : (client : Client) (host : Address) (began limit moment : ℕ) (answer : Pulled) (offered : TopoEvent) (h : CheckHow) (s : ServerState) →
    limit ≡ began + connect_limit client → Runs began s → IsEndBy host began limit moment answer offered h → MayCheckEnd client moment h s
MayEnd-by client host began limit moment answer offered (how.Reply sample) s e runs by = (began, runs, by.0)
MayEnd-by client host began limit moment answer offered (how.Refused code) s e runs by = (began, runs, tt)
MayEnd-by client host began limit moment answer offered how.Cut s e runs by = (began, runs, tt)
MayEnd-by client host began limit moment answer offered how.Fault s e runs by = (began, runs, tt)
MayEnd-by client host began limit moment answer offered how.Late s e runs by = (began, runs, let late = by.2 in omega arith)
MayEnd-by client host began limit moment answer offered (how.Bad at) s e runs by = (began, runs, tt)
MayEnd-by client host began limit moment answer offered how.NoDial s e runs by = absurd by

-- what it is offered as asks for no check
pub asks_of-by : (host : Address) (began limit moment : ℕ) (answer : Pulled) (offered : TopoEvent) (h : CheckHow) → IsEndBy host began limit moment answer offered h → asks_of offered ≡ None
asks_of-by host began limit moment answer offered (how.Reply sample) by = ap asks_of by.1.says
asks_of-by host began limit moment answer offered (how.Refused code) by = ap asks_of by.0
asks_of-by host began limit moment answer offered how.Cut by = ap asks_of by.0
asks_of-by host began limit moment answer offered how.Fault by = ap asks_of by.0
asks_of-by host began limit moment answer offered how.Late by = ap asks_of by.0
asks_of-by host began limit moment answer offered (how.Bad at) by = ap asks_of by
asks_of-by host began limit moment answer offered how.NoDial by = absurd by

-- it is what must be offered
pub record IsOwedBy (h : CheckHow) (s : ServerState) (offered : TopoEvent) : Type 0 where
  pub first : Owed
  pub is : offered_of h (Some s) ≡ first ∷ []
  pub offers : IsToOffer first offered

broken_owed : (s : ServerState) (offered : TopoEvent) → offered ≡ event.Broken s.address None → IsToOffer (owed.Offered (event.Broken s.address None)) offered
broken_owed s offered e = λ place taken. e

pub IsOwedBy-by : (began limit moment : ℕ) (answer : Pulled) (offered : TopoEvent) (h : CheckHow) (s : ServerState) →
    IsEndBy s.address began limit moment answer offered h → IsOwedBy h s offered
IsOwedBy-by began limit moment answer offered (how.Reply sample) s by = record { first = owed.Reply s.address sample; is = refl; offers = λ place taken. by.1 }
IsOwedBy-by began limit moment answer offered (how.Refused code) s by = record { first = _; is = refl; offers = broken_owed s offered by.0 }
IsOwedBy-by began limit moment answer offered how.Cut s by = record { first = _; is = refl; offers = broken_owed s offered by.0 }
IsOwedBy-by began limit moment answer offered how.Fault s by = record { first = _; is = refl; offers = broken_owed s offered by.0 }
IsOwedBy-by began limit moment answer offered how.Late s by = record { first = _; is = refl; offers = broken_owed s offered by.0 }
IsOwedBy-by began limit moment answer offered (how.Bad at) s by = record { first = _; is = refl; offers = broken_owed s offered by }
IsOwedBy-by began limit moment answer offered how.NoDial s by = absurd by

pub IsOwedBy-broken : (h : CheckHow) (s : ServerState) (offered : TopoEvent) → h ≡ how.NoDial → offered ≡ event.Broken s.address None → IsOwedBy h s offered
IsOwedBy-broken h s offered e is = subst (λ (g : CheckHow). IsOwedBy g s offered) (sym e) (record { first = owed.Offered (event.Broken s.address None); is = refl; offers = broken_owed s offered is })

-- ---- When their entries may stand

begins-time : (p : Point) (moment k : ℕ) (rest : List Owed) → MayBegin p moment k rest → p.moment ≤ moment → InTime p.owed p.moment moment
begins-time p moment k rest (at_will paid none) at = subst (λ o. InTime o p.moment moment) (sym paid) at
begins-time p moment k rest (in_turn owes now) at = subst (λ o. InTime o p.moment moment) (sym owes) (sym now)

begins-turn : (p : Point) (moment k stream : ℕ) (rest : List Owed) → MayBegin p moment k rest → InTurn p.owed (fact.CheckBegan k stream)
begins-turn p moment k stream rest (at_will paid none) = subst (λ o. InTurn o (fact.CheckBegan k stream)) (sym paid) tt
begins-turn p moment k stream rest (in_turn owes now) = subst (λ o. InTurn o (fact.CheckBegan k stream)) (sym owes) refl

ends-turn : (p : Point) (moment k : ℕ) (rest : List Owed) → MayBegin p moment k rest → InTurn p.owed (fact.CheckEnded k how.NoDial)
ends-turn p moment k rest (at_will paid none) = subst (λ o. InTurn o (fact.CheckEnded k how.NoDial)) (sym paid) tt
ends-turn p moment k rest (in_turn owes now) = subst (λ o. InTurn o (fact.CheckEnded k how.NoDial)) (sym owes) (refl, refl)

-- what is left behind it
pub begins-left : (p : Point) (moment k : ℕ) (rest : List Owed) → MayBegin p moment k rest → drop 1 p.owed ≡ rest
begins-left p moment k rest (at_will paid none) = ap (λ ds. drop 1 ds) paid ∙ sym none
begins-left p moment k rest (in_turn owes now) = ap (λ ds. drop 1 ds) owes

pub StandsAt-began : (client : Client) (p : Point) (moment k stream : ℕ) (rest : List Owed) → MayBegin p moment k rest → p.moment ≤ moment → p.state.is_ending ≡ false →
    AtServer p.state k (λ s. IsDue moment s × IsCheckStream p.state s.check_stream stream) → StandsAt client p (record { at = moment; what = fact.CheckBegan k stream })
StandsAt-began client p moment k stream rest begins at going rule = record {
  time = begins-time p moment k rest begins at;
  turn = begins-turn p moment k stream rest begins;
  going = subst (λ b. MayGoOn b (fact.CheckBegan k stream)) (sym going) tt;
  rule = rule;
  command = tt;
}

-- a desk of which nothing must come next may begin any check, and is so again where nothing must behind it
pub IsToBegin-ready : {N : Type 0} (d : Core N) (moment k : ℕ) → IsReady d moment → IsToBegin d moment k []
IsToBegin-ready d moment k ready = record { runs = ready.runs; now = ready.now; turn = at_will ready.paid refl }

pub IsReady-paid : {N : Type 0} (d : Core N) (moment n : ℕ) → IsWriting d moment n [] → IsReady d moment
IsReady-paid d moment n w = record { runs = w.runs; paid = w.owes; now = w.now }

-- one that must begin one may
pub IsToBegin-owed : {N : Type 0} (d : Core N) (moment n k : ℕ) (rest : List Owed) → IsWriting d moment n (owed.Begun k ∷ rest) → IsToBegin d moment k rest
IsToBegin-owed d moment n k rest w = record { runs = w.runs; now = w.now; turn = in_turn w.owes w.at }

pub StandsAt-undialled : (client : Client) (p : Point) (moment k : ℕ) (h : CheckHow) (rest : List Owed) → h ≡ how.NoDial → MayBegin p moment k rest → p.moment ≤ moment →
    p.state.is_ending ≡ false → AtServer p.state k (λ s. IsDue moment s × (s.check_stream ≡ None)) → StandsAt client p (record { at = moment; what = fact.CheckEnded k h })
StandsAt-undialled client p moment k h rest is begins at going rule =
    subst (λ (g : CheckHow). StandsAt client p (record { at = moment; what = fact.CheckEnded k g })) (sym is) (record {
      time = begins-time p moment k rest begins at;
      turn = ends-turn p moment k rest begins;
      going = subst (λ b. MayGoOn b (fact.CheckEnded k how.NoDial)) (sym going) tt;
      rule = rule;
      command = tt;
    })

pub StandsAt-ended : (client : Client) (p : Point) (moment k : ℕ) (h : CheckHow) → p.owed ≡ [] → p.moment ≤ moment → p.state.is_ending ≡ false →
    AtServer p.state k (MayCheckEnd client moment h) → StandsAt client p (record { at = moment; what = fact.CheckEnded k h })
StandsAt-ended client p moment k h paid at going rule = record {
  time = subst (λ o. InTime o p.moment moment) (sym paid) at;
  turn = subst (λ o. InTurn o (fact.CheckEnded k h)) (sym paid) tt;
  going = subst (λ b. MayGoOn b (fact.CheckEnded k h)) (sym going) tt;
  rule = rule;
  command = tt;
}

pub StandsAt-hello : (client : Client) (p : Point) (moment k stream place : ℕ) (first : Bool) (rest : List Owed) (r : Request) → p.owed ≡ owed.Hello (purpose.Check k) stream first ∷ rest →
    p.moment ≡ moment → p.state.is_ending ≡ false → IsHello (purpose.Check k) stream first r → place ≡ p.state.requests → r.id ≡ id_at place →
    StandsAt client p (record { at = moment; what = fact.Asked place r })
StandsAt-hello client p moment k stream place first rest r owes at going hello next id = record {
  time = subst (λ o. InTime o p.moment moment) (sym owes) (sym at);
  turn = subst (λ o. InTurn o (fact.Asked place r)) (sym owes) hello;
  going = subst (λ b. MayGoOn b (fact.Asked place r)) (sym going) tt;
  rule = record { next = next; id = id; is_for = subst (λ u. IsFor client p.state moment p.time u r) (sym hello.is_for) tt };
  command = subst (λ u. CommandAllows p.state (asked_event u)) (sym hello.is_for) tt;
}

InTime-now : (owes : List Owed) (ahead moment : ℕ) → ahead ≡ moment → InTime owes ahead moment
InTime-now [] ahead moment e = omega arith
InTime-now (d ∷ ds) ahead moment e = sym e

pub StandsAt-told : (client : Client) (p : Point) (moment stamp : ℕ) → p.moment ≡ moment → p.state.is_ending ≡ false → p.is_reply ≡ true → Exceeds stamp p.time →
    StandsAt client p (record { at = moment; what = fact.Time stamp })
StandsAt-told client p moment stamp at going reply news = record {
  time = InTime-now p.owed p.moment moment at;
  turn = tt;
  going = subst (λ b. MayGoOn b (fact.Time stamp)) (sym going) tt;
  rule = (reply, news);
  command = tt;
}

-- what holds behind the first of the two entries with which a check begins
pub record IsBegun (old between : Recorded) (moment k stream : ℕ) (rest : List Owed) (s : ServerState) : Type 0 where
  pub owes : between.point.owed ≡ owed.Hello (purpose.Check k) stream (not (is_some s.check_stream)) ∷ rest
  pub at : between.point.moment ≡ moment
  pub going : between.point.state.is_ending ≡ old.point.state.is_ending
  pub requests : between.point.state.requests ≡ old.point.state.requests

pub IsBegun-by : (old between : Recorded) (moment k stream : ℕ) (rest : List Owed) (s : ServerState) (e : Entry) →
    Adds an_entry old.lists moment e (fact.CheckBegan k stream) old between → slice_get old.point.state.servers k ≡ Some s → MayBegin old.point moment k rest →
    IsBegun old between moment k stream rest s
IsBegun-by old between moment k stream rest s e adds there begins =
    let w : ClientState = old.point.state in
    let is : between.point.state ≡ record w { servers = slice_set w.servers k (check_begins moment stream s); streams = (stream_taken (kept_at w k) stream w).streams } =
    ap (λ (p : Point). p.state) adds.point_now ∙ with_stream_taken w (kept_at w k) stream k s (check_begins moment stream) there in
    record {
      owes =
          ap (λ (p : Point). p.owed) adds.point_now
          ∙ ap (λ (o : Option ServerState). owed.Hello (purpose.Check k) stream (not (is_some (stream_kept o))) ∷ drop 1 old.point.owed) there
          ∙ ap (λ ds. owed.Hello (purpose.Check k) stream (not (is_some s.check_stream)) ∷ ds) (begins-left old.point moment k rest begins);
      at = ap (λ (p : Point). p.moment) adds.point_now;
      going = ap (λ (v : ClientState). v.is_ending) is;
      requests = ap (λ (v : ClientState). v.requests) is;
    }

-- ---- By way of what a desk keeps

pub IsKept-told : (old new : Recorded) (before lines : Lines) (topology : Topology) (ss : List ServerState) (time now : Option ClusterTime) (came : ClusterTime) (count last moment : ℕ)
    (stopped : Bool) (e : Entry) →
    Adds an_entry old.lists moment e (fact.Time came.stamp) old new → exceeds came.stamp time ≡ true → now ≡ greater time came → lines ≡ before → last ≡ moment →
    count ≤ new.room.steps → IsKept old before topology ss time count last stopped → IsKept new lines topology ss now count last stopped
IsKept-told old new before lines topology ss time now came count last moment stopped e adds news is same at room k =
    let counted = k.counted in
    subst (λ (l : Lines). IsKept new l topology ss now count last stopped) (sym same)
    (record {
      leads = λ runs.
          LeadsTo-told old new before topology ss time now came last moment e adds (is ∙ greater-exceeds time came news) (omega arith) (omega arith) (k.leads runs);
      counted = k.counted;
      in_range = k.in_range;
    })

pub IsKept-dialled : (trail : Recorded) (old new : Lines) (topology : Topology) (ss : List ServerState) (time : Option ClusterTime) (count last stream : ℕ) (stopped : Bool) →
    line_at old stream ≡ None → KeepsOthers stream old new → IsKept trail old topology ss time count last stopped → IsKept trail new topology ss time count last stopped
IsKept-dialled trail old new topology ss time count last stream stopped free others k = record {
  leads = λ runs. LeadsTo-dialled trail old new topology ss time last stream free others (k.leads runs);
  counted = k.counted;
  in_range = k.in_range;
}

pub IsKept-begun : (old between new : Recorded) (before lines : Lines) (topology : Topology) (ss : List ServerState) (time : Option ClusterTime) (count last moment k stream : ℕ)
    (stopped : Bool) (s t : ServerState) (line now : Line) →
    Begins old between new moment k stream → slice_get ss k ≡ Some s → s.has_left ≡ false → line_at before stream ≡ Some line → line.is_for ≡ for_use.Check k →
    line_at lines stream ≡ Some now → now.is_for ≡ for_use.Check k → KeepsOthers stream before lines → last ≡ moment → count ≤ new.room.steps →
    t ≡ check_begins moment stream s →
    IsKept old before topology ss time count last stopped → IsKept new lines topology (slice_set ss k t) time count last stopped
IsKept-begun old between new before lines topology ss time count last moment k stream stopped s t line now b there stays line_there is_for now_there now_is_for others at room is kept =
    let counted = kept.counted in
    subst (λ (u : ServerState). IsKept new lines topology (slice_set ss k u) time count last stopped) (sym is)
    (record {
      leads = λ runs.
          LeadsTo-begun old between new before lines topology ss time last moment k stream s line now b there stays line_there is_for now_there now_is_for others (omega arith) (omega arith)
          (kept.leads runs);
      counted = kept.counted ∙ sym (closings-set_kept ss k s (check_begins moment stream s) there refl);
      in_range = kept.in_range;
    })

pub IsKept-ended : (old new : Recorded) (before lines : Lines) (topology : Topology) (ss : List ServerState) (time : Option ClusterTime) (count last moment k : ℕ) (stopped : Bool)
    (h : CheckHow) (known : Bool) (s t : ServerState) (e : Entry) →
    Adds an_entry old.lists moment e (fact.CheckEnded k h) old new → slice_get ss k ≡ Some s → (h ≡ how.NoDial → s.check_stream ≡ None) → EndsOn lines k h s.check_stream →
    OnlyAt k before lines → last ≡ moment → count ≤ new.room.steps → known ≡ stands_known topology s.address → t ≡ check_ends moment h known s →
    IsKept old before topology ss time count last stopped → IsKept new lines topology (slice_set ss k t) time count last stopped
IsKept-ended old new before lines topology ss time count last moment k stopped h known s t e adds there none on only at room knows is kept =
    let counted = kept.counted in
    subst (λ (u : ServerState). IsKept new lines topology (slice_set ss k u) time count last stopped) (sym (is ∙ ap (λ (b : Bool). check_ends moment h b s) knows))
    (record {
      leads = λ runs.
          LeadsTo-ended old new before lines topology ss time last moment k h s e adds there none on only (omega arith) (omega arith) (kept.leads runs);
      counted =
          kept.counted
          ∙ sym (closings-set_kept ss k s (check_ends moment h (stands_known topology s.address) s) there (closing-ended moment h (stands_known topology s.address) s));
      in_range = kept.in_range;
    })

-- ---- Through a turn

turned : (tells : Type 0) (old new : Lines) (stream : ℕ) (answer : Pulled) (line : Line) (from to : List NetEvent) → line_at old stream ≡ Some line →
    IfSome (line_at old stream) (λ b. Turns tells stream answer b (line_at new stream) from to) → Turns tells stream answer line (line_at new stream) from to
turned tells old new stream answer line from to there turns = subst (λ o. IfSome o (λ b. Turns tells stream answer b (line_at new stream) from to)) there turns

used-by : (tells : Type 0) (old new : Lines) (stream : ℕ) (answer : Pulled) (line : Line) (from to : List NetEvent) → line_at old stream ≡ Some line →
    pull_shuts answer ≡ false → Turns tells stream answer line (line_at new stream) from to → IsStillUsed old new stream
used-by tells old new stream answer line from to there going t = record {
  before = line;
  was = there;
  now = record line { wire = t.wire };
  there = t.left ∙ ap (λ b. line_behind b line t.wire) going;
  is_for = refl;
}

pub IsStillUsed-waits : (tells : Type 0) (old new : Lines) (stream : ℕ) (answer : Pulled) (line : Line) (from to : List NetEvent) → line_at old stream ≡ Some line →
    answer ≡ pulled.NotYet → IfSome (line_at old stream) (λ b. Turns tells stream answer b (line_at new stream) from to) → IsStillUsed old new stream
IsStillUsed-waits tells old new stream answer line from to there waits turns =
    used-by tells old new stream answer line from to there (ap pull_shuts waits) (turned tells old new stream answer line from to there turns)

idle-by : (tells : Type 0) (old new : Lines) (stream : ℕ) (message : Message) (line : Line) (from to : List NetEvent) → line_at old stream ≡ Some line →
    Turns tells stream (pulled.Whole message) line (line_at new stream) from to → IsKeptIdle old new stream
unfolding used-by
idle-by tells old new stream message line from to there t = record {
  still = used-by tells old new stream (pulled.Whole message) line from to there refl t;
  sent = t.trades.gives.2;
}

pub IsKeptIdle-whole : (tells : Type 0) (old new : Lines) (stream : ℕ) (answer : Pulled) (line : Line) (from to : List NetEvent) → line_at old stream ≡ Some line →
    IsWhole answer → IfSome (line_at old stream) (λ b. Turns tells stream answer b (line_at new stream) from to) → IsKeptIdle old new stream
IsKeptIdle-whole tells old new stream answer line from to there whole turns =
    idle-by tells old new stream whole.message line from to there
    (subst (λ a. Turns tells stream a line (line_at new stream) from to) whole.came (turned tells old new stream answer line from to there turns))

pub IsWhole-reply : (host : Address) (began limit moment sample : ℕ) (answer : Pulled) (offered : TopoEvent) (h : CheckHow) → h ≡ how.Reply sample →
    IsEndBy host began limit moment answer offered h → IsWhole answer
IsWhole-reply host began limit moment sample answer offered h e by = (subst (λ g. IsEndBy host began limit moment answer offered g) e by).2
