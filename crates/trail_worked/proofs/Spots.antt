-- Points of a trail whose topology is that of a list: what an entry leads to is computed on the list.
use Rattle.std.proofs.Common.{◌≡◌, ℕ, ℤ, ◌+◌, Bool, true, false, not, ◌&&◌, ◌||◌, if◌then◌else◌, List, [], ◌∷◌, ◌++◌, map, filter, Option, None, Some, is_some, refl, sym, ap, ◌∙◌, subst, slice_get}
use Rattle.std.specs.Prelude.{filter_map}
use Rattle.std.specs.Option.{option_map_or, option_and_then}
use Rattle.std.specs.FinMap as map
use Rattle.host_name.specs.Addresses.{Address}
use Rattle.hello_reply.specs.declared.server_description.ServerDescription.{ServerDescription}
use Rattle.entry_judge.specs.declared.timed.Timed.{Timed}
use Rattle.entry_judge.specs.Judge.{Legal, state_after}
use Rattle.topo_rules.specs.declared.event.TopoEvent.{TopoEvent}
use Rattle.topo_rules.specs.declared.event.TopoEvent.TheVariants.{Reply, Broken, Refused}
use Rattle.topo_rules.specs.Changes.{hosts_beyond, serves, is_single, ready_after, cleared_after}
use Rattle.topo_rules.specs.Kinds.{is_known, bears_data}
use Rattle.topo_rules.specs.Readings.{least, minutes_of, session_minutes_of}
use Rattle.topo_rules.specs.Rules.{event_host, after}
use Rattle.topo_book.specs.Fresh.{by_kept, is_accepted_verdict}
use Rattle.topo_book.specs.declared.verdict.Verdict.{Verdict}
use Rattle.write_retry.specs.declared.events.OpEvent.TheVariants as op_event
use Rattle.desk_trail.specs.declared.entry.LookedHow.TheVariants as looked
use Rattle.desk_trail.specs.declared.request.Purpose.{Purpose}
use Rattle.desk_trail.specs.declared.request.Purpose.TheVariants as purpose
use Rattle.desk_trail.specs.Attempts.{OfCommand, misfit_event, to_command, asked_by, commands_after}
use Rattle.desk_trail.specs.Checks.{check_ends, offered_of, stream_taken, kept_at, is_known_by}
use Rattle.desk_trail.specs.Clients.{Client}
use Rattle.desk_trail.specs.Facts.{Fact}
use Rattle.desk_trail.specs.Facts as fact
use Rattle.desk_trail.specs.Legal.{Point, StandsAt, client_after, point_after}
use Rattle.desk_trail.specs.Looks.{is_numbered, selected_by, selected_of}
use Rattle.desk_trail.specs.Owed.{Owed, left_owed}
use Rattle.desk_trail.specs.Owed as owed
use Rattle.desk_trail.specs.Pools.{OfHost, pool_step, pools_after}
use Rattle.desk_trail.specs.Requests.{farewell_by}
use Rattle.desk_trail.specs.States.{ClientState, ServerState, Selected, description_of, number_of, with_command, with_server}
use Rattle.desk_trail.specs.Topologies.{generation_for, verdict_on, with_ask, readied, cleared, owed_by_change, offered_after, offered_owes}
use Rattle.trail_worked.proofs.MapRows.{Rows, map_of, found, hosts_in, descriptions_in, get-map_of, keys-map_of, values-map_of}
use Rattle.trail_worked.proofs.TopologyRows.{Listed, shown, listed_after, after-shown}

-- a client with the topology of a list
abbrev pub on : ClientState → Listed → ClientState
on w l = record w { topology = shown l }

pub record Spot : Type 0 where
  pub point : Point
  pub listed : Listed

abbrev pub up : Spot → Point
up s = record s.point { state = on s.point.state s.listed }

-- ---- what is read off the list

abbrev pub verdict_in : ClientState → Listed → TopoEvent → Verdict
verdict_in w l event = by_kept (found l.rows (event_host event)) event (generation_for w event)

abbrev pub listed_behind : Bool → Listed → TopoEvent → Listed
listed_behind b l event = if b then listed_after l event else l

abbrev pub offered_in : Bool → ℕ → TopoEvent → ClientState → Listed → ClientState
offered_in b moment event w l =
    record (if b then with_ask moment event (on w l) else on w l) { topology = shown (listed_behind b l event); events = w.events + 1 }

abbrev pub beyond_rows : Rows → Rows → List Address
beyond_rows es other = filter (λ x. not (is_some (found other x))) (hosts_in es)

abbrev pub serves_in : Listed → ServerDescription → Bool
serves_in l d = bears_data d || is_single l.kind && is_known d

abbrev pub ready_in : TopoEvent → Listed → Option Address
ready_in (Reply description sample) new =
    if option_map_or (serves_in new) (found new.rows description.host) false then Some description.host else None
ready_in (Broken host generation) new = None
ready_in (Refused host version generation shutdown) new = None

abbrev pub cleared_in : TopoEvent → Listed → Option Address
cleared_in (Reply description sample) new = None
cleared_in (Broken host generation) new = if is_some (found new.rows host) then Some host else None
cleared_in (Refused host version generation shutdown) new = if shutdown && is_some (found new.rows host) then Some host else None

abbrev pub change_owes : ClientState → TopoEvent → Listed → Listed → List Owed
change_owes w event l new =
    map (λ address. owed.Named address) (beyond_rows new.rows l.rows)
    ++ (map (λ host. owed.Dropped host) (filter_map (number_of w) (beyond_rows l.rows new.rows))
    ++ (readied w (option_and_then (number_of w) (ready_in event new))
    ++ cleared (option_and_then (number_of w) (cleared_in event new))))

abbrev pub owed_in : Bool → ClientState → Listed → TopoEvent → List Owed
owed_in b w l event = if b then change_owes (on w l) event l (listed_after l event) else []

abbrev pub known_by : Listed → Option ServerState → Bool
known_by l None = false
known_by l (Some s) = option_map_or is_known (found l.rows s.address) false

abbrev pub minutes_in : Listed → Option ℤ
minutes_in l = least (map minutes_of (filter bears_data (descriptions_in l.rows)))

abbrev pub description_in : ClientState → Listed → ℕ → Option ServerDescription
description_in w l host = option_and_then (λ s. found l.rows s.address) (slice_get w.servers host)

abbrev pub selected_with : ℕ → Listed → Option ServerDescription → Option Selected
selected_with host l None = None
selected_with host l (Some d) = Some (record { host = host; kind = l.kind; server = d; minutes = minutes_in l })

abbrev pub selected_in : ClientState → Listed → ℕ → Option Selected
selected_in w l host = selected_with host l (description_in w l host)

-- a command that chose a server
abbrev pub choosing : Client → ℕ → ℕ → ClientState → Option Selected → ClientState
choosing client op host w chosen =
    commands_after (Some (op, op_event.Chosen host (option_map_or (is_numbered client) chosen false)))
    (with_command w op (λ c. record c { selection = None; selected = chosen }))

abbrev pub failing : ℕ → ℕ → ClientState → Option ServerDescription → ClientState
failing op host w d = commands_after (to_command op (misfit_event host d)) (with_command w op (λ c. record c { selection = None }))

-- ---- what an entry leads to

abbrev pub moved : Client → Spot → ℕ → Fact → ClientState → List Owed → Point
moved client s moment f w new = record (point_after client (up s) (record { at = moment; what = f })) { state = w; owed = new ++ left_owed s.point.owed f }

abbrev pub fact_after : Client → Spot → ℕ → Fact → Spot
fact_after client s moment (fact.Offered place event taken) =
    let b = is_accepted_verdict (verdict_in s.point.state s.listed event) in
    record {
      point = moved client s moment (fact.Offered place event taken) (offered_in b moment event s.point.state s.listed) (owed_in b s.point.state s.listed event);
      listed = listed_behind b s.listed event;
    }
fact_after client s moment (fact.CheckEnded host how) =
    let w = on s.point.state s.listed in
    record {
      point = moved client s moment (fact.CheckEnded host how) (with_server w host (check_ends moment how (known_by s.listed (slice_get w.servers host))))
          (offered_of how (slice_get w.servers host));
      listed = s.listed;
    }
fact_after client s moment (fact.Looked op a b kept (looked.Chosen host)) =
    let w = on s.point.state s.listed in
    record {
      point = moved client s moment (fact.Looked op a b kept (looked.Chosen host)) (choosing client op host w (selected_in w s.listed host)) [];
      listed = s.listed;
    }
fact_after client s moment (fact.Looked op a b kept (looked.Incompatible host)) =
    let w = on s.point.state s.listed in
    record {
      point = moved client s moment (fact.Looked op a b kept (looked.Incompatible host)) (failing op host w (description_in w s.listed host)) [];
      listed = s.listed;
    }
fact_after client s moment f = record { point = point_after client (up s) (record { at = moment; what = f }); listed = s.listed }

abbrev pub spot_after : Client → Spot → Timed Fact → Spot
spot_after client s t = fact_after client s t.at t.what

-- ---- the list and the map agree

pub verdict-in : (w : ClientState) (l : Listed) (event : TopoEvent) → verdict_on (on w l) event ≡ verdict_in w l event
verdict-in w l event = ap (λ o. by_kept o event (generation_for w event)) (get-map_of l.rows (event_host event))

behind-shown : (b : Bool) (l : Listed) (event : TopoEvent) → (if b then after (shown l) event else shown l) ≡ shown (listed_behind b l event)
behind-shown true l event = after-shown l event
behind-shown false l event = refl

offered-in : (moment : ℕ) (event : TopoEvent) (w : ClientState) (l : Listed) →
    offered_after moment event (on w l) ≡ offered_in (is_accepted_verdict (verdict_in w l event)) moment event w l
offered-in moment event w l =
    ap (λ v. let b = is_accepted_verdict v in record (if b then with_ask moment event (on w l) else on w l) { topology = if b then after (shown l) event else shown l; events = w.events + 1 })
    (verdict-in w l event)
    ∙ (let b = is_accepted_verdict (verdict_in w l event) in
    ap (λ t. record (if b then with_ask moment event (on w l) else on w l) { topology = t; events = w.events + 1 }) (behind-shown b l event))

beyond-rows : (es other : Rows) → hosts_beyond (map_of es) (map_of other) ≡ beyond_rows es other
beyond-rows es other =
    ap (λ (f : Address → Option ServerDescription). filter (λ x. not (is_some (f x))) (map.keys (map_of es))) (λ i x. get-map_of other x i)
    ∙ ap (filter (λ x. not (is_some (found other x)))) (keys-map_of es)

ready-in : (event : TopoEvent) (l : Listed) → ready_after event (shown l) ≡ ready_in event l
ready-in (Reply description sample) l =
    ap (λ o. if option_map_or (serves (shown l)) o false then Some description.host else None) (get-map_of l.rows description.host)
ready-in (Broken host generation) l = refl
ready-in (Refused host version generation shutdown) l = refl

cleared-in : (event : TopoEvent) (l : Listed) → cleared_after event (shown l) ≡ cleared_in event l
cleared-in (Reply description sample) l = refl
cleared-in (Broken host generation) l = ap (λ (o : Option ServerDescription). if is_some o then Some host else None) (get-map_of l.rows host)
cleared-in (Refused host version generation shutdown) l =
    ap (λ (o : Option ServerDescription). if shutdown && is_some o then Some host else None) (get-map_of l.rows host)

change-owes : (w : ClientState) (event : TopoEvent) (l new : Listed) → owed_by_change (on w l) event (shown new) ≡ change_owes (on w l) event l new
change-owes w event l new = λ i.
    map (λ address. owed.Named address) (beyond-rows new.rows l.rows i)
    ++ (map (λ host. owed.Dropped host) (filter_map (number_of w) (beyond-rows l.rows new.rows i))
    ++ (readied w (option_and_then (number_of w) (ready-in event new i))
    ++ cleared (option_and_then (number_of w) (cleared-in event new i))))

owed-in : (w : ClientState) (l : Listed) (event : TopoEvent) →
    offered_owes (on w l) event ≡ owed_in (is_accepted_verdict (verdict_in w l event)) w l event
owed-in w l event =
    ap (λ v. if is_accepted_verdict v then owed_by_change (on w l) event (after (shown l) event) else []) (verdict-in w l event)
    ∙ ap (λ t. if is_accepted_verdict (verdict_in w l event) then owed_by_change (on w l) event t else []) (after-shown l event)
    ∙ ap (λ ds. if is_accepted_verdict (verdict_in w l event) then ds else []) (change-owes w event l (listed_after l event))

known-by : (w : ClientState) (l : Listed) (s : Option ServerState) → is_known_by (on w l) s ≡ known_by l s
known-by w l None = refl
known-by w l (Some s) = ap (λ o. option_map_or is_known o false) (get-map_of l.rows s.address)

pub minutes-in : (l : Listed) → session_minutes_of (map_of l.rows) ≡ minutes_in l
minutes-in l = ap (λ ds. least (map minutes_of (filter bears_data ds))) (values-map_of l.rows)

description-in : (w : ClientState) (l : Listed) (s : Option ServerState) →
    option_and_then (description_of (on w l)) s ≡ option_and_then (λ (x : ServerState). found l.rows x.address) s
description-in w l None = refl
description-in w l (Some s) = get-map_of l.rows s.address

selected-with : (w : ClientState) (l : Listed) (host : ℕ) (d : Option ServerDescription) → selected_by (on w l) host d ≡ selected_with host l d
selected-with w l host None = refl
selected-with w l host (Some d) = ap (λ m. Some (record { host = host; kind = l.kind; server = d; minutes = m })) (minutes-in l)

selected-in : (w : ClientState) (l : Listed) (host : ℕ) → selected_of (on w l) host ≡ selected_in w l host
selected-in w l host = ap (selected_by (on w l) host) (description-in w l (slice_get w.servers host)) ∙ selected-with w l host (description_in w l host)

-- ---- only an event that is offered changes the topology

by_commands : (e : Option OfCommand) (w : ClientState) → (commands_after e w).topology ≡ w.topology
by_commands None w = refl
by_commands (Some e) w = refl

by_pools : (w : ClientState) (moment : ℕ) (e : Option OfHost) → (pools_after w moment e).topology ≡ w.topology
by_pools w moment None = refl
by_pools w moment (Some e) = refl

by_stream : (kept : Option ℕ) (stream : ℕ) (w : ClientState) → (stream_taken kept stream w).topology ≡ w.topology
by_stream None stream w = refl
by_stream (Some kept) stream w = refl

by_end : (b : Bool) (v : ClientState) → (if b then record v { is_ending = true } else v).topology ≡ v.topology
by_end true v = refl
by_end false v = refl

by_request : (moment stream : ℕ) (of : Purpose) (w : ClientState) → (asked_by moment of (farewell_by of stream w)).topology ≡ w.topology
by_request moment stream (purpose.Check host) w = refl
by_request moment stream (purpose.Greeting host conn) w = refl
by_request moment stream (purpose.Command op) w = refl
by_request moment stream purpose.Farewell w = refl

-- the point behind an entry that leaves the topology alone
kept : (client : Client) (s : Spot) (moment : ℕ) (f : Fact) → (client_after client moment (on s.point.state s.listed) f).topology ≡ shown s.listed →
    let p = point_after client (up s) (record { at = moment; what = f }) in p ≡ up (record { point = p; listed = s.listed })
kept client s moment f e =
    let p = point_after client (up s) (record { at = moment; what = f }) in λ i. record p { state = record p.state { topology = e i } }

module _ (client : Client) where
  pub fact-after : (s : Spot) (moment : ℕ) (f : Fact) → point_after client (up s) (record { at = moment; what = f }) ≡ up (fact_after client s moment f)
  fact-after s moment (fact.Named host address) = refl
  fact-after s moment (fact.Dropped host) = refl
  fact-after s moment (fact.Offered place event taken) =
      let w = s.point.state in
      λ i. moved client s moment (fact.Offered place event taken) (offered-in moment event w s.listed i) (owed-in w s.listed event i)
  fact-after s moment (fact.PoolReady host) = refl
  fact-after s moment (fact.PoolClear host) = refl
  fact-after s moment (fact.PoolShut host) = kept client s moment (fact.PoolShut host) (by_end _ _)
  fact-after s moment (fact.CheckBegan host stream) = kept client s moment (fact.CheckBegan host stream) (by_stream (kept_at (on s.point.state s.listed) host) stream _)
  fact-after s moment (fact.CheckDry host) = refl
  fact-after s moment (fact.CheckEnded host how) =
      let w = on s.point.state s.listed in
      ap (λ known. moved client s moment (fact.CheckEnded host how) (with_server w host (check_ends moment how known)) (offered_of how (slice_get w.servers host)))
      (known-by s.point.state s.listed (slice_get w.servers host))
  fact-after s moment (fact.Looked op a b kept_hosts (looked.Chosen host)) =
      let w = on s.point.state s.listed in
      ap (λ chosen. moved client s moment (fact.Looked op a b kept_hosts (looked.Chosen host)) (choosing client op host w chosen) [])
      (selected-in s.point.state s.listed host)
  fact-after s moment (fact.Looked op a b kept_hosts looked.NoneFits) = refl
  fact-after s moment (fact.Looked op a b kept_hosts looked.Failed) = refl
  fact-after s moment (fact.Looked op a b kept_hosts (looked.Incompatible host)) =
      let w = on s.point.state s.listed in
      ap (λ d. moved client s moment (fact.Looked op a b kept_hosts (looked.Incompatible host)) (failing op host w d) [])
      (description-in s.point.state s.listed (slice_get w.servers host))
      ∙ kept_failing (to_command op (misfit_event host (description_in w s.listed host)))
    where
      kept_failing : (e : Option OfCommand) →
          (let w = on s.point.state s.listed in let v = commands_after e (with_command w op (λ c. record c { selection = None })) in
          moved client s moment (fact.Looked op a b kept_hosts (looked.Incompatible host)) v []
          ≡ moved client s moment (fact.Looked op a b kept_hosts (looked.Incompatible host)) (on v s.listed) [])
      kept_failing None = refl
      kept_failing (Some e) = refl
  fact-after s moment (fact.Entered op host ticket) = refl
  fact-after s moment (fact.Lent op host conn) =
      kept client s moment (fact.Lent op host conn) (by_pools _ moment (pool_step (on s.point.state s.listed) (fact.Lent op host conn)))
  fact-after s moment (fact.Dialled op host conn None) =
      kept client s moment (fact.Dialled op host conn None) (by_pools _ moment (pool_step (on s.point.state s.listed) (fact.Dialled op host conn None)))
  fact-after s moment (fact.Dialled op host conn (Some stream)) =
      kept client s moment (fact.Dialled op host conn (Some stream)) (by_pools _ moment (pool_step (on s.point.state s.listed) (fact.Dialled op host conn (Some stream))))
  fact-after s moment (fact.Settled op host conn stale) =
      kept client s moment (fact.Settled op host conn stale) (by_pools _ moment (pool_step (on s.point.state s.listed) (fact.Settled op host conn stale)))
  fact-after s moment (fact.NotLent op host why) =
      kept client s moment (fact.NotLent op host why) (by_pools _ moment (pool_step (on s.point.state s.listed) (fact.NotLent op host why)))
  fact-after s moment (fact.CheckedIn op host conn errored) =
      kept client s moment (fact.CheckedIn op host conn errored) (by_pools _ moment (pool_step (on s.point.state s.listed) (fact.CheckedIn op host conn errored)))
  fact-after s moment (fact.ConnShut host conn reason) = refl
  fact-after s moment (fact.Leased op place lsid fresh) = refl
  fact-after s moment (fact.Drew op number) = refl
  fact-after s moment (fact.Returned op dirty kept_again) = refl
  fact-after s moment (fact.Asked place request) =
      kept client s moment (fact.Asked place request) (by_commands _ _ ∙ by_request moment request.stream request.purpose _)
  fact-after s moment (fact.Ended op end) = refl
  fact-after s moment (fact.Time stamp) = refl
  fact-after s moment (fact.Finished op outcome) = refl

  -- ---- trails

  -- each entry stands where those ahead of it lead, computed on lists
  abbrev pub AreGood : Spot → List (Timed Fact) → Type 0
  AreGood s ts = Legal (λ x t. StandsAt client (up x) t) (spot_after client) s ts

  abbrev pub spot_behind : Spot → List (Timed Fact) → Spot
  spot_behind s ts = state_after (spot_after client) s ts

  pub good : (s : Spot) (ts : List (Timed Fact)) → AreGood s ts → Legal (StandsAt client) (point_after client) (up s) ts
  good s [] g = tt
  good s (t ∷ ts) g =
      (g.0, subst (λ p. Legal (StandsAt client) (point_after client) p ts) (sym (fact-after s t.at t.what)) (good (spot_after client s t) ts g.1))

  pub behind : (s : Spot) (ts : List (Timed Fact)) → state_after (point_after client) (up s) ts ≡ up (spot_behind s ts)
  behind s [] = refl
  behind s (t ∷ ts) = ap (λ p. state_after (point_after client) p ts) (fact-after s t.at t.what) ∙ behind (spot_after client s t) ts
