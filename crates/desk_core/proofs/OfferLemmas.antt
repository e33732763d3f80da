-- A desk behind an event that was offered.
use Rattle.std.proofs.Common.{◌≡◌, ◌≢◌, ◌≤◌, ◌<◌, ℕ, ◌+◌, Bool, true, false, if◌then◌else◌, List, [], ◌∷◌, ◌++◌, map, length, Option, None, Some, refl, sym, ap, ◌∙◌, subst, arith}
use Rattle.std.specs.Prelude.{IfSome, OnOk}
use Rattle.std.specs.declared.result.Result.{Result}
use Rattle.std.specs.declared.result.Result.TheVariants.{Ok, Err}
use Rattle.std.specs.List.{filter_map}
use Rattle.std.specs.Option.{option_and_then}
use Rattle.std.proofs.lemmas.List.{length-append}
use Rattle.std.proofs.lemmas.Option.{slice_get_within}
use Rattle.bson_doc.specs.declared.cluster_time.ClusterTime.{ClusterTime}
use Rattle.host_name.specs.Addresses.{Address}
use Rattle.topo_rules.specs.declared.change.Change.{Change}
use Rattle.topo_rules.specs.declared.event.TopoEvent.{TopoEvent}
use Rattle.topo_rules.specs.declared.topology.Topology.{Topology}
use Rattle.topo_rules.specs.Changes.{IsChange}
use Rattle.topo_rules.specs.Rules as rules
use Rattle.topo_book.specs.Fresh.{is_accepted_verdict, taken}
use Rattle.topo_book.specs.Offers.{IfAccepted, is_accepted, verdict_of}
use Rattle.topo_book.specs.declared.taken.Taken.{Taken}
use Rattle.topo_book.specs.declared.taken.Taken.TheVariants as answer
use Rattle.topo_book.specs.declared.verdict.Verdict.{Verdict}
use Rattle.desk_trail.specs.declared.entry.Entry.{Entry}
use Rattle.desk_trail.specs.declared.entry.OfferedHow.{OfferedHow}
use Rattle.desk_trail.specs.declared.room.Room.{Room}
use Rattle.desk_trail.specs.Clients.{Client}
use Rattle.desk_trail.specs.Facts.{Fact, Lists}
use Rattle.desk_trail.specs.Facts as fact
use Rattle.desk_trail.specs.Legal.{Point, StandsAt, owes}
use Rattle.desk_trail.specs.Owed.{Owed, left_owed}
use Rattle.desk_trail.specs.Owed as owed
use Rattle.desk_trail.specs.States.{ClientState, ServerState, number_of}
use Rattle.desk_trail.specs.Topologies.{Says, generation_in, server_with, asked_at, asks_of, cleared, offered_after, offered_owes, owed_by_change, readied, topology_after, verdict_on, with_ask}
use Rattle.desk_trail.specs.Written.{an_event}
use Rattle.legal_trail.specs.Recorded.{Adds, Recorded}
use Rattle.wired_trail.specs.Lines.{Lines as WireLines}
use Rattle.desk_core.specs.Follows.{IsToOffer, asked_in, owed_by}
use Rattle.desk_core.specs.Kept.{IsKept, IsWriting, LeadsTo, client_of}
use Rattle.desk_core.specs.Servers.{closings}
use Rattle.desk_core.specs.State.{Core}
use Rattle.desk_core.proofs.AskLemmas.{AreKeptServers-asked, addresses-asked, closings-asked, length-asked, owed_by-asked}
use Rattle.desk_core.proofs.KeptLemmas.{length-with_entry, restated}
use Rattle.desk_core.proofs.ServerLemmas.{AreKeptServers-more, number_of-found}

-- ---- The entry may stand

pub StandsAt-offered : (client : Client) (p : Point) (moment place : ℕ) (event : TopoEvent) (how : OfferedHow) (first : Owed) (rest : List Owed) →
    p.owed ≡ first ∷ rest → p.moment ≡ moment → p.state.is_ending ≡ false → IsToOffer first event → place ≡ p.state.events →
    Says p.state event (verdict_on p.state event) how → StandsAt client p (record { at = moment; what = fact.Offered place event how })
StandsAt-offered client p moment place event how first rest o m going is next says = record {
  time = rw o (sym m);
  turn = rw o (is place how);
  going = rw going tt;
  rule = record { next = next; says = says };
  command = tt;
}

-- ---- The client behind it

-- an event that asks for no check changes the topology alone
pub offered-plain : (moment : ℕ) (event : TopoEvent) (w : ClientState) → asks_of event ≡ None →
    offered_after moment event w ≡ record w { topology = topology_after w event; events = w.events + 1 }
offered-plain moment event w h =
    ap (λ (o : Option Address). record (if is_accepted_verdict (verdict_on w event) then asked_at moment (option_and_then (number_of w) o) w else w) { topology = topology_after w event; events = w.events + 1 }) h
    ∙ by (is_accepted_verdict (verdict_on w event)) (topology_after w event)
  where
    by : (b : Bool) (t : Topology) → record (if b then w else w) { topology = t; events = w.events + 1 } ≡ record w { topology = t; events = w.events + 1 }
    by true t = refl
    by false t = refl

-- the topology, the count of events and the servers alone change
offered-moves : (moment : ℕ) (event : TopoEvent) (w : ClientState) →
    offered_after moment event w ≡ record w { topology = topology_after w event; events = w.events + 1; servers = (offered_after moment event w).servers }
offered-moves moment event w = by (is_accepted_verdict (verdict_on w event)) (topology_after w event) (with_ask moment event w) (asks (option_and_then (number_of w) (asks_of event)))
  where
    asks : (o : Option ℕ) → asked_at moment o w ≡ record w { servers = (asked_at moment o w).servers }
    asks None = refl
    asks (Some host) = refl

    by : (b : Bool) (t : Topology) (v : ClientState) → v ≡ record w { servers = v.servers } →
        record (if b then v else w) { topology = t; events = w.events + 1 } ≡ record w { topology = t; events = w.events + 1; servers = (if b then v else w).servers }
    by true t v e = ap (λ (u : ClientState). record u { topology = t; events = w.events + 1 }) e
    by false t v e = refl

-- of the server that it names a check is asked for, where the event was taken in
pub accepted-servers : (moment : ℕ) (event : TopoEvent) (w : ClientState) (o : Option ℕ) → is_accepted_verdict (verdict_on w event) ≡ true →
    o ≡ option_and_then (number_of w) (asks_of event) → (offered_after moment event w).servers ≡ asked_in moment o w.servers
accepted-servers moment event w o accepted is =
    ap (λ (b : Bool). (if b then with_ask moment event w else w).servers) accepted ∙ by (option_and_then (number_of w) (asks_of event))
    ∙ ap (λ p. asked_in moment p w.servers) (sym is)
  where
    by : (p : Option ℕ) → (asked_at moment p w).servers ≡ asked_in moment p w.servers
    by None = refl
    by (Some host) = refl

pub refused-servers : (moment : ℕ) (event : TopoEvent) (w : ClientState) → is_accepted_verdict (verdict_on w event) ≡ false →
    (offered_after moment event w).servers ≡ asked_in moment None w.servers
refused-servers moment event w refused = ap (λ (b : Bool). (if b then with_ask moment event w else w).servers) refused

-- that server is there
pub asked-within : (w : ClientState) (a : Option Address) (o : Option ℕ) → o ≡ option_and_then (number_of w) a → IfSome o (λ x. x < length w.servers)
asked-within w a o e = subst (λ p. IfSome p (λ x. x < length w.servers)) (sym e) (by a)
  where
    found : (b : Address) (p : Option ℕ) → number_of w b ≡ p → IfSome p (λ x. x < length w.servers)
    found b None is = tt
    found b (Some x) is = let f = number_of-found w b x is in slice_get_within w.servers x f.server f.there

    by : (b : Option Address) → IfSome (option_and_then (number_of w) b) (λ x. x < length w.servers)
    by None = tt
    by (Some b) = found b (number_of w b) refl

pub LeadsTo-offered : (old new : Recorded) (lines : WireLines) (before after : Topology) (servers : List ServerState) (asked : Option ℕ) (time : Option ClusterTime)
    (last moment place : ℕ) (event : TopoEvent) (how : OfferedHow) (e : Entry) → LeadsTo old lines before servers time last →
    Adds an_event (record old.lists { events = old.lists.events ++ event ∷ [] }) moment e (fact.Offered place event how) old new →
    (offered_after moment event old.point.state).servers ≡ asked_in moment asked old.point.state.servers →
    after ≡ topology_after old.point.state event → moment ≤ last → closings servers + 1 ≤ old.room.steps → LeadsTo new lines after (asked_in moment asked servers) time last
LeadsTo-offered old new lines before after servers asked time last moment place event how e l a asks is in_time space =
    let w = old.point.state in
    let ts : List ServerState = asked_in moment asked servers in
    let lists = a.lists_now in
    let events : length new.lists.events ≡ length old.lists.events + 1 = ap (λ (x : Lists). length x.events) lists ∙ length-append old.lists.events (event ∷ []) in
    let longer : length new.steps ≡ length old.steps + 1 = ap length a.steps_now ∙ length-with_entry old.steps moment e in
    let used : old.room.steps ≡ new.room.steps + 1 = a.room_used.steps in
    let behind : (offered_after moment event w).servers ≡ ts = asks ∙ ap (λ (v : ClientState). asked_in moment asked v.servers) l.state in
    let state : new.point.state ≡ record (client_of old before servers) { topology = after; events = length old.lists.events + 1; servers = ts } =
    ap (λ (p : Point). p.state) a.point_now ∙ offered-moves moment event w
    ∙ (λ i. record w { topology = sym is i; events = w.events + 1; servers = behind i })
    ∙ ap (λ (v : ClientState). record v { topology = after; events = v.events + 1; servers = ts }) l.state in
    let requests = ap (λ (x : Lists). length x.requests) lists in
    let same = closings-asked moment asked servers in
    record {
      state =
          restated new (record (client_of old before servers) { topology = after; events = length old.lists.events + 1; servers = ts }) (length old.lists.events + 1)
          (length old.lists.requests) after ts state refl (sym events) (sym requests);
      greatest = ap (λ (p : Point). p.time) a.point_now ∙ l.greatest;
      moment = subst (λ (p : Point). p.moment ≤ last) (sym a.point_now) in_time;
      names = ap (λ (x : Lists). x.names) lists ∙ l.names ∙ sym (addresses-asked moment asked servers);
      numbers = rw (length-asked moment asked servers) l.numbers;
      room = omega arith;
      kept =
          AreKeptServers-more lines (length old.steps) (length new.steps) ts (omega arith)
          (AreKeptServers-asked lines (length old.steps) moment asked servers l.kept);
    }

pub servers-offered : (old new : Recorded) (lists : Lists) (moment place : ℕ) (event : TopoEvent) (how : OfferedHow) (e : Entry) (asked : Option ℕ) →
    Adds an_event lists moment e (fact.Offered place event how) old new →
    (offered_after moment event old.point.state).servers ≡ asked_in moment asked old.point.state.servers →
    new.point.state.servers ≡ asked_in moment asked old.point.state.servers
servers-offered old new lists moment place event how e asked a asks = ap (λ (p : Point). p.state.servers) a.point_now ∙ asks

-- ---- What it owes

-- as the desk writes it
abbrev owed_with : ClientState → List ServerState → (added removed : List Address) (ready clear : Option Address) → List Owed
owed_with w servers added removed ready clear =
    let v : ClientState = record w { servers = servers } in
    map (λ address. owed.Named address) added
    ++ (map (λ host. owed.Dropped host) (filter_map (number_of v) removed)
    ++ (readied v (option_and_then (number_of v) ready)
    ++ cleared (option_and_then (number_of v) clear)))

pub owed_by-change : (w v : ClientState) (event : TopoEvent) (new : Topology) (c : Change) → IsChange w.topology event new c → v.servers ≡ w.servers →
    owed_by_change w event new ≡ owed_by v c
owed_by-change w v event new c h same = λ i. owed_with w (sym same i) (sym h.added i) (sym h.removed i) (sym h.ready i) (sym h.clear i)

pub accepted-owes : (moment : ℕ) (asked : Option ℕ) (w v : ClientState) (event : TopoEvent) (c : Change) → is_accepted_verdict (verdict_on w event) ≡ true →
    IsChange w.topology event (rules.after w.topology event) c → v.servers ≡ asked_in moment asked w.servers → offered_owes w event ≡ owed_by v c
accepted-owes moment asked w v event c accepted h same =
    ap (λ (b : Bool). if b then owed_by_change w event (rules.after w.topology event) else []) accepted
    ∙ owed_by-change w w event (rules.after w.topology event) c h refl ∙ owed_by-asked moment asked w v c same

pub refused-owes : (w : ClientState) (event : TopoEvent) → is_accepted_verdict (verdict_on w event) ≡ false → offered_owes w event ≡ []
refused-owes w event refused = ap (λ (b : Bool). if b then owed_by_change w event (rules.after w.topology event) else []) refused

pub IsWriting-after : {N : Type 0} (d : Core N) (old : Recorded) (used : Room) (lists : Lists) (moment n : ℕ) (first : Owed) (rest more : List Owed) (entry : Entry) (f : Fact) →
    old.point.owed ≡ first ∷ rest → Adds used lists moment entry f old d.trail → owes old.client moment old.point.state f ≡ more → left_owed (first ∷ rest) f ≡ rest →
    d.is_stopped ≡ false → d.last ≡ moment → d.closings + n ≤ d.trail.room.steps → IsWriting d moment n (more ++ rest)
IsWriting-after d old used lists moment n first rest more entry f o a owes left runs last space = record {
  runs = runs;
  owes = ap (λ (p : Point). p.owed) a.point_now ∙ (λ i. owes i ++ (ap (λ (xs : List Owed). left_owed xs f) o ∙ left) i);
  at = ap (λ (p : Point). p.moment) a.point_now;
  now = last;
  space = space;
}

-- ---- What the topology's book answered

pub refused-verdict : (a : Taken) → ((c : Change) → a ≢ answer.Accepted c) → is_accepted_verdict (verdict_of a) ≡ false
refused-verdict (answer.Accepted c) h = absurd (h c refl)
refused-verdict answer.Gone h = refl
refused-verdict (answer.StaleVersion kept came) h = refl
refused-verdict (answer.StaleGeneration kept came) h = refl

pub verdict-is : (b : Topology) (w : ClientState) (event copy : TopoEvent) (pool : ℕ) (host : Address) (v : Verdict) → w.topology ≡ b → copy ≡ event →
    host ≡ rules.event_host event → pool ≡ generation_in (server_with w host) → v ≡ taken b.servers copy pool → v ≡ verdict_on w event
verdict-is b w event copy pool host v t same at generation e =
    e ∙ (λ i. taken (sym t i).servers (same i) ((generation ∙ ap (λ (h : Address). generation_in (server_with w h)) at) i))

pub topology-is : (b after : Topology) (w : ClientState) (event copy : TopoEvent) (v : Verdict) → w.topology ≡ b → copy ≡ event → v ≡ verdict_on w event →
    after ≡ (if is_accepted_verdict v then rules.after b copy else b) → after ≡ topology_after w event
topology-is b after w event copy v t same verdict e =
    e ∙ (λ i. if is_accepted_verdict (verdict i) then rules.after (sym t i) (same i) else sym t i)

pub change-is : (b after : Topology) (w : ClientState) (event copy : TopoEvent) (a : Taken) (c : Change) → w.topology ≡ b → copy ≡ event → a ≡ answer.Accepted c →
    after ≡ (if is_accepted a then rules.after b copy else b) → IfAccepted a (IsChange b copy after) → IsChange w.topology event (rules.after w.topology event) c
change-is b after w event copy a c t same is e h =
    let new : after ≡ rules.after b copy = e ∙ ap (λ (x : Taken). if is_accepted x then rules.after b copy else b) is in
    let first : IsChange b copy after c = subst (λ (x : Taken). IfAccepted x (IsChange b copy after)) is h in
    subst (λ (x : Topology). IsChange x event (rules.after x event) c) (sym t)
    (subst (λ (x : TopoEvent). IsChange b x (rules.after b x) c) same (subst (λ (x : Topology). IsChange b copy x c) new first))

pub OnOk-by : {A E : Type 0} (r : Result A E) (P Q : Type 0) → (P → Q) → OnOk r P → OnOk r Q
OnOk-by (Ok a) P Q f h = f h
OnOk-by (Err e) P Q f h = h

-- ---- It keeps what it keeps

pub IsKept-offered : (old new : Recorded) (lines next : WireLines) (before after : Topology) (servers now : List ServerState) (asked : Option ℕ) (time : Option ClusterTime)
    (count last : ℕ) (stopped : Bool) (moment place : ℕ) (event : TopoEvent) (how : OfferedHow) (e : Entry) → IsKept old lines before servers time count last stopped →
    stopped ≡ false → next ≡ lines → Adds an_event (record old.lists { events = old.lists.events ++ event ∷ [] }) moment e (fact.Offered place event how) old new →
    (offered_after moment event old.point.state).servers ≡ asked_in moment asked old.point.state.servers → now ≡ asked_in moment asked servers →
    after ≡ topology_after old.point.state event → last ≡ moment → count + 1 ≤ old.room.steps → IsKept new next after now time count last stopped
IsKept-offered old new lines next before after servers now asked time count last stopped moment place event how e k runs same a asks behind is at space =
    let counted = k.counted in
    subst (λ (x : WireLines). IsKept new x after now time count last stopped) (sym same)
    (subst (λ (ts : List ServerState). IsKept new lines after ts time count last stopped) (sym behind) (record {
      leads = λ r. LeadsTo-offered old new lines before after servers asked time last moment place event how e (k.leads runs) a asks is (omega arith) (omega arith);
      counted = k.counted ∙ sym (closings-asked moment asked servers);
      in_range = k.in_range;
    }))
