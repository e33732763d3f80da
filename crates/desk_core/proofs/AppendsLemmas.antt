-- A trail that is only appended to: by nothing, by one entry, and step by step.
use Rattle.std.proofs.Common.{◌≡◌, ◌≤◌, ℕ, ◌+◌, ◌==◌, Bool, true, false, ◌||◌, List, [], ◌∷◌, ◌++◌, length, Option, None, Some, refl, sym, ap, ◌∙◌, append_assoc, arith}
use Rattle.std.specs.Prelude.{All, slice_get, if◌then◌else◌}
use Rattle.std.specs.Option.{option_and_then}
use Rattle.std.proofs.lemmas.Bool.{eq-eqb, eqb-true}
use Rattle.std.proofs.lemmas.List.{append-nil, length-append}
use Rattle.std.proofs.lemmas.List.Folds.{list_any-append}
use Rattle.std.proofs.lemmas.List.Elements.{All-append, All-cons, All-head, All-nil, All-tail}
use Rattle.bson_doc.specs.declared.ids.Lsid.{Lsid}
use Rattle.entry_judge.specs.declared.timed.Timed.{Timed}
use Rattle.host_name.specs.Addresses.{Address}
use Rattle.pool_book.specs.declared.answers.CloseReason.{CloseReason}
use Rattle.topo_rules.specs.declared.event.TopoEvent.{TopoEvent}
use Rattle.topo_rules.specs.declared.topology.Topology.{Topology}
use Rattle.topo_book.specs.Fresh.{is_accepted_verdict}
use Rattle.desk_trail.specs.declared.entry.CheckHow.{CheckHow}
use Rattle.desk_trail.specs.declared.entry.Entry.{Entry}
use Rattle.desk_trail.specs.declared.entry.OfferedHow.{OfferedHow}
use Rattle.desk_trail.specs.declared.request.Request.{Request}
use Rattle.desk_trail.specs.declared.request.Purpose.{Purpose}
use Rattle.desk_trail.specs.declared.request.Purpose.TheVariants as purpose
use Rattle.desk_trail.specs.declared.room.Room.{Room}
use Rattle.desk_trail.specs.declared.step.Step.{Step}
use Rattle.desk_trail.specs.Attempts.{asked_by, asked_event, commands_after}
use Rattle.desk_trail.specs.Checks.{check_begins, kept_at, stream_taken}
use Rattle.desk_trail.specs.Clients.{Client}
use Rattle.desk_trail.specs.Facts.{Fact, Lists, facts_of}
use Rattle.desk_trail.specs.Facts as fact
use Rattle.desk_trail.specs.Lanes.{is_of_command}
use Rattle.desk_trail.specs.Legal.{Point, client_after, pool_after, stays_at}
use Rattle.desk_trail.specs.Orders.{asks_for}
use Rattle.desk_trail.specs.Requests.{farewell_by}
use Rattle.desk_trail.specs.States.{ClientState, number_of, with_server}
use Rattle.desk_trail.specs.Topologies.{asked_at, asks_of, offered_after, topology_after, verdict_on, with_ask}
use Rattle.desk_trail.specs.Written.{step_of}
use Rattle.legal_trail.specs.Recorded.{Adds, Recorded, told_in}
use Rattle.net_link.specs.Causes.{Rose}
use Rattle.wired_trail.specs.Faults.{tells_fault}
use Rattle.desk_core.specs.Appends.{Appends, AppendsAside, AppendsOf, IsBy, IsLonger, IsOfLease, IsOfLook, IsOfOp, KeepsCommands, LeasesBy, LooksBy, NamesNone, Tells, tell_fault}

-- ---- Lists that are longer

pub IsLonger-refl : {A : Type 0} (xs ys : List A) → ys ≡ xs → IsLonger xs ys
IsLonger-refl xs ys e = record { more = []; grows = e ∙ sym (append-nil xs) }

pub IsLonger-by : {A : Type 0} (xs ys more : List A) → ys ≡ xs ++ more → IsLonger xs ys
IsLonger-by xs ys more e = record { more = more; grows = e }

pub IsLonger-trans : {A : Type 0} (xs ys zs : List A) → IsLonger xs ys → IsLonger ys zs → IsLonger xs zs
IsLonger-trans xs ys zs a b = record {
  more = a.more ++ b.more;
  grows = b.grows ∙ ap (λ l. l ++ b.more) a.grows ∙ append_assoc xs a.more b.more;
}

pub IsLonger-length : {A : Type 0} (xs ys : List A) → IsLonger xs ys → length xs ≤ length ys
IsLonger-length xs ys a = rw (a.grows, length-append xs a.more) (omega arith)

-- ---- Trails

-- by nothing, where all but the room stays
appends-same : {R : Type 0} (moment : ℕ) (old new : Recorded) → new.client ≡ old.client → new.lists ≡ old.lists → new.steps ≡ old.steps → Appends R moment old new
appends-same {R} moment old new client lists steps = record {
  client = client;
  added = [];
  steps = steps ∙ sym (append-nil old.steps);
  moments = All-nil (λ (s : Step). s.moment ≡ moment);
  faults = λ e. absurd (cc);
  names = IsLonger-refl old.lists.names new.lists.names (ap (λ (l : Lists). l.names) lists);
  events = IsLonger-refl old.lists.events new.lists.events (ap (λ (l : Lists). l.events) lists);
  sessions = IsLonger-refl old.lists.sessions new.lists.sessions (ap (λ (l : Lists). l.sessions) lists);
  requests = IsLonger-refl old.lists.requests new.lists.requests (ap (λ (l : Lists). l.requests) lists);
}

-- one of two tests passes
either-true : {R : Type 0} (a b : Bool) → (a ≡ true → R) → (b ≡ true → R) → (a || b) ≡ true → R
either-true {R} true b f g h = f refl
either-true {R} false b f g h = g h

appends-trans : {R : Type 0} (moment : ℕ) (old between new : Recorded) → Appends R moment old between → Appends R moment between new → Appends R moment old new
appends-trans {R} moment old between new a b = record {
  client = b.client ∙ a.client;
  added = a.added ++ b.added;
  steps = b.steps ∙ ap (λ l. l ++ b.added) a.steps ∙ append_assoc old.steps a.added b.added;
  moments = All-append (λ (s : Step). s.moment ≡ moment) a.added b.added a.moments b.moments;
  faults = λ e. either-true (tell_fault a.added) (tell_fault b.added) a.faults b.faults
      (sym (list_any-append (λ (s : Step). tells_fault s.entry) a.added b.added) ∙ e);
  names = IsLonger-trans old.lists.names between.lists.names new.lists.names a.names b.names;
  events = IsLonger-trans old.lists.events between.lists.events new.lists.events a.events b.events;
  sessions = IsLonger-trans old.lists.sessions between.lists.sessions new.lists.sessions a.sessions b.sessions;
  requests = IsLonger-trans old.lists.requests between.lists.requests new.lists.requests a.requests b.requests;
}

-- where a call failed, one did that lasted as long or longer
appends-weaken : {R S : Type 0} (moment : ℕ) (old new : Recorded) → (R → S) → Appends R moment old new → Appends S moment old new
appends-weaken {R} {S} moment old new f a = record {
  client = a.client;
  added = a.added;
  steps = a.steps;
  moments = a.moments;
  faults = λ e. f (a.faults e);
  names = a.names;
  events = a.events;
  sessions = a.sessions;
  requests = a.requests;
}

-- ---- What is told of them

tells-same : {P : Fact → Type 0} (old new : List (Timed Fact)) → new ≡ old → Tells P old new
tells-same {P} old new e = record { more = []; facts = e ∙ sym (append-nil old); each = All-nil (λ (t : Timed Fact). P t.what) }

pub tells-trans : {P : Fact → Type 0} (old between new : List (Timed Fact)) → Tells P old between → Tells P between new → Tells P old new
tells-trans {P} old between new a b = record {
  more = a.more ++ b.more;
  facts = b.facts ∙ ap (λ l. l ++ b.more) a.facts ∙ append_assoc old a.more b.more;
  each = All-append (λ (t : Timed Fact). P t.what) a.more b.more a.each b.each;
}

pub all-weaken : {P Q : Fact → Type 0} → ((f : Fact) → P f → Q f) → (ts : List (Timed Fact)) → All (λ (t : Timed Fact). P t.what) ts → All (λ (t : Timed Fact). Q t.what) ts
all-weaken {P} {Q} h [] a = All-nil (λ (t : Timed Fact). Q t.what)
all-weaken {P} {Q} h (t ∷ ts) a =
    All-cons (λ (x : Timed Fact). Q x.what) t ts (h t.what (All-head (λ (x : Timed Fact). P x.what) t ts a)) (all-weaken h ts (All-tail (λ (x : Timed Fact). P x.what) t ts a))

-- of a wider kind
pub Tells-weaken : {P Q : Fact → Type 0} (old new : List (Timed Fact)) → ((f : Fact) → P f → Q f) → Tells P old new → Tells Q old new
Tells-weaken {P} {Q} old new h a = record { more = a.more; facts = a.facts; each = all-weaken h a.more a.each }

-- ---- Trails that grow by entries of a kind

pub grown-same : {R : Type 0} {P : Fact → Type 0} (moment : ℕ) (old new : Recorded) → new.client ≡ old.client → new.lists ≡ old.lists → new.steps ≡ old.steps →
    AppendsOf R P moment old new
grown-same {R} {P} moment old new client lists steps = record {
  appends = appends-same moment old new client lists steps;
  tells = tells-same (told_in old) (told_in new) (ap (λ (l : Lists). facts_of l new.steps) lists ∙ ap (λ (ss : List Step). facts_of old.lists ss) steps);
}

-- where only the room changes
pub grown-still : {R : Type 0} {P : Fact → Type 0} (moment : ℕ) (old new : Recorded) (room : Room) → new ≡ record old { room = room } → AppendsOf R P moment old new
grown-still {R} {P} moment old new room e =
    grown-same moment old new (ap (λ (t : Recorded). t.client) e) (ap (λ (t : Recorded). t.lists) e) (ap (λ (t : Recorded). t.steps) e)

pub grown-trans : {R : Type 0} {P : Fact → Type 0} (moment : ℕ) (old between new : Recorded) → AppendsOf R P moment old between → AppendsOf R P moment between new →
    AppendsOf R P moment old new
grown-trans {R} {P} moment old between new a b = record {
  appends = appends-trans moment old between new a.appends b.appends;
  tells = tells-trans (told_in old) (told_in between) (told_in new) a.tells b.tells;
}

-- where a call failed, one did that lasted as long or longer
pub grown-weaken : {R S : Type 0} {P : Fact → Type 0} (moment : ℕ) (old new : Recorded) → (R → S) → AppendsOf R P moment old new → AppendsOf S P moment old new
grown-weaken {R} {S} {P} moment old new f a = record { appends = appends-weaken moment old new f a.appends; tells = a.tells }

-- by entries of a wider kind
pub grown-wider : {R : Type 0} {P Q : Fact → Type 0} (moment : ℕ) (old new : Recorded) → ((f : Fact) → P f → Q f) → AppendsOf R P moment old new → AppendsOf R Q moment old new
grown-wider {R} {P} {Q} moment old new h a = record { appends = a.appends; tells = Tells-weaken (told_in old) (told_in new) h a.tells }

-- ---- Whose entries they are

-- of no command, and so no look and no lease
no-look : (a b : ℕ) (f : Fact) → NamesNone f → LooksBy a b f
no-look a b (fact.Looked op x y kept picked) h = let none = h op in let same = eq-eqb op op refl in absurd (cc)
no-look a b f h = tt

no-lease : (own : Lsid) (f : Fact) → NamesNone f → LeasesBy own f
no-lease own (fact.Leased op place lsid true) h = let none = h op in let same = eq-eqb op op refl in absurd (cc)
no-lease own f h = tt

pub Plain-aside : (op : ℕ) (f : Fact) → NamesNone f → IsOfOp op f
Plain-aside op f h = λ a b own. record { names = λ o e. let none = h o in absurd (cc); looks = no-look a b f h; leases = no-lease own f h }

-- of the command alone, where it is no look and no fresh lease
pub Plain-own : (op : ℕ) (f : Fact) → ((o : ℕ) → is_of_command o f ≡ true → (op == o) ≡ true) → ((a b : ℕ) → LooksBy a b f) → ((own : Lsid) → LeasesBy own f) → IsOfOp op f
Plain-own op f names looks leases = λ a b own. record { names = λ o e. sym (eqb-true op o (names o e)); looks = looks a b; leases = leases own }

-- ---- An entry

-- lists that are as long or longer
pub record AreGrown (old new : Lists) : Type 0 where
  pub names : IsLonger old.names new.names
  pub events : IsLonger old.events new.events
  pub sessions : IsLonger old.sessions new.sessions
  pub requests : IsLonger old.requests new.requests

-- the same, the ids of sessions as they were
pub record AreLonger (old new : Lists) : Type 0 where
  pub names : IsLonger old.names new.names
  pub events : IsLonger old.events new.events
  pub ids : new.sessions ≡ old.sessions
  pub requests : IsLonger old.requests new.requests

pub AreGrown-longer : (old new : Lists) → AreLonger old new → AreGrown old new
AreGrown-longer old new l = record {
  names = l.names;
  events = l.events;
  sessions = IsLonger-refl old.sessions new.sessions l.ids;
  requests = l.requests;
}

pub AreGrown-session : (l : Lists) (more : List Lsid) → AreGrown l (record l { sessions = l.sessions ++ more })
AreGrown-session l more = record {
  names = IsLonger-refl l.names l.names refl;
  events = IsLonger-refl l.events l.events refl;
  sessions = IsLonger-by l.sessions (l.sessions ++ more) more refl;
  requests = IsLonger-refl l.requests l.requests refl;
}

pub AreLonger-refl : (l : Lists) → AreLonger l l
AreLonger-refl l = record {
  names = IsLonger-refl l.names l.names refl;
  events = IsLonger-refl l.events l.events refl;
  ids = refl;
  requests = IsLonger-refl l.requests l.requests refl;
}

pub AreLonger-names : (l : Lists) (more : List Address) → AreLonger l (record l { names = l.names ++ more })
AreLonger-names l more = record {
  names = IsLonger-by l.names (l.names ++ more) more refl;
  events = IsLonger-refl l.events l.events refl;
  ids = refl;
  requests = IsLonger-refl l.requests l.requests refl;
}

pub AreLonger-events : (l : Lists) (more : List TopoEvent) → AreLonger l (record l { events = l.events ++ more })
AreLonger-events l more = record {
  names = IsLonger-refl l.names l.names refl;
  events = IsLonger-by l.events (l.events ++ more) more refl;
  ids = refl;
  requests = IsLonger-refl l.requests l.requests refl;
}

pub AreLonger-requests : (l : Lists) (more : List Request) → AreLonger l (record l { requests = l.requests ++ more })
AreLonger-requests l more = record {
  names = IsLonger-refl l.names l.names refl;
  events = IsLonger-refl l.events l.events refl;
  ids = refl;
  requests = IsLonger-by l.requests (l.requests ++ more) more refl;
}

appends-adds : {R : Type 0} (used : Room) (lists : Lists) (moment : ℕ) (e : Entry) (told : Fact) (old new : Recorded) → AreGrown old.lists lists →
    Adds used lists moment e told old new → (tells_fault e ≡ true → R) → Appends R moment old new
appends-adds {R} used lists moment e told old new longer a quiet =
    let names = ap (λ (l : Lists). l.names) a.lists_now in
    let events = ap (λ (l : Lists). l.events) a.lists_now in
    let sessions = ap (λ (l : Lists). l.sessions) a.lists_now in
    let requests = ap (λ (l : Lists). l.requests) a.lists_now in
    record {
      client = a.same_client;
      added = step_of moment e ∷ [];
      steps = a.steps_now;
      moments = All-cons (λ (s : Step). s.moment ≡ moment) (step_of moment e) [] refl (All-nil (λ (s : Step). s.moment ≡ moment));
      faults = either-true (tells_fault e) false quiet (λ e. absurd (cc));
      names = IsLonger-by old.lists.names new.lists.names longer.names.more (names ∙ longer.names.grows);
      events = IsLonger-by old.lists.events new.lists.events longer.events.more (events ∙ longer.events.grows);
      sessions = IsLonger-by old.lists.sessions new.lists.sessions longer.sessions.more (sessions ∙ longer.sessions.grows);
      requests = IsLonger-by old.lists.requests new.lists.requests longer.requests.more (requests ∙ longer.requests.grows);
    }

pub grown-adds : {R : Type 0} {P : Fact → Type 0} (used : Room) (lists : Lists) (moment : ℕ) (e : Entry) (told : Fact) (old new : Recorded) → AreGrown old.lists lists →
    Adds used lists moment e told old new → (tells_fault e ≡ true → R) → P told → AppendsOf R P moment old new
grown-adds {R} {P} used lists moment e told old new longer a quiet is = record {
  appends = appends-adds used lists moment e told old new longer a quiet;
  tells =
      let t : Timed Fact = record { at = moment; what = told } in
      let kind : Timed Fact → Type 0 = λ x. P x.what in
      record { more = t ∷ []; facts = a.told_now; each = All-cons kind t [] is (All-nil kind) };
}

-- beside commands, where those of the command may be
pub grown-plain : {R : Type 0} (moment op : ℕ) (old new : Recorded) → AppendsAside R moment old new → AppendsOf R (IsOfOp op) moment old new
grown-plain {R} moment op old new a = grown-wider moment old new (Plain-aside op) a.appends

pub grown-looks : {R : Type 0} (moment op a b : ℕ) (old new : Recorded) → AppendsAside R moment old new → AppendsOf R (IsOfLook op a b) moment old new
grown-looks {R} moment op a b old new g = grown-wider moment old new (λ f h own. Plain-aside op f h a b own) g.appends

-- of the command, where a session may be leased, and where both may be
pub grown-leasing : {R : Type 0} (moment op : ℕ) (own : Lsid) (old new : Recorded) → AppendsOf R (IsOfOp op) moment old new → AppendsOf R (IsOfLease op own) moment old new
grown-leasing {R} moment op own old new g = grown-wider moment old new (λ f h a b. h a b own) g

pub grown-by_lease : {R : Type 0} (moment op a b : ℕ) (own : Lsid) (old new : Recorded) → AppendsOf R (IsOfLease op own) moment old new → AppendsOf R (IsBy op a b own) moment old new
grown-by_lease {R} moment op a b own old new g = grown-wider moment old new (λ f h. h a b) g

pub grown-by_look : {R : Type 0} (moment op a b : ℕ) (own : Lsid) (old new : Recorded) → AppendsOf R (IsOfLook op a b) moment old new → AppendsOf R (IsBy op a b own) moment old new
grown-by_look {R} moment op a b own old new g = grown-wider moment old new (λ f h. h own) g

-- ---- Commands and sessions that stay

kept : (w v : ClientState) → v.commands ≡ w.commands → v.sessions ≡ w.sessions → KeepsCommands w v
kept w v commands sessions = record { commands = commands; sessions = sessions }

pub KeepsCommands-refl : (w : ClientState) → KeepsCommands w w
KeepsCommands-refl w = kept w w refl refl

pub KeepsCommands-trans : (w v u : ClientState) → KeepsCommands w v → KeepsCommands v u → KeepsCommands w u
KeepsCommands-trans w v u a b = kept w u (b.commands ∙ a.commands) (b.sessions ∙ a.sessions)

-- an entry by which they stay so, and which is of no command
pub record IsAside (client : Client) (moment : ℕ) (w : ClientState) (f : Fact) : Type 0 where
  pub keeps : KeepsCommands w (client_after client moment w f)
  pub names : NamesNone f

aside : (client : Client) (moment : ℕ) (w : ClientState) (f : Fact) → KeepsCommands w (client_after client moment w f) → NamesNone f → IsAside client moment w f
aside client moment w f keeps names = record { keeps = keeps; names = names }

pub kept-by_drop : (client : Client) (moment : ℕ) (w : ClientState) (host : ℕ) → IsAside client moment w (fact.Dropped host)
kept-by_drop client moment w host = aside client moment w (fact.Dropped host) (kept w (client_after client moment w (fact.Dropped host)) refl refl) (λ o. refl)

pub kept-by_ready : (client : Client) (moment : ℕ) (w : ClientState) (host : ℕ) → IsAside client moment w (fact.PoolReady host)
kept-by_ready client moment w host = aside client moment w (fact.PoolReady host) (kept w (client_after client moment w (fact.PoolReady host)) refl refl) (λ o. refl)

pub kept-by_clear : (client : Client) (moment : ℕ) (w : ClientState) (host : ℕ) → IsAside client moment w (fact.PoolClear host)
kept-by_clear client moment w host = aside client moment w (fact.PoolClear host) (kept w (client_after client moment w (fact.PoolClear host)) refl refl) (λ o. refl)

pub kept-by_name : (client : Client) (moment : ℕ) (w : ClientState) (host : ℕ) (a : Address) → IsAside client moment w (fact.Named host a)
kept-by_name client moment w host a = aside client moment w (fact.Named host a) (kept w (client_after client moment w (fact.Named host a)) refl refl) (λ o. refl)

pub kept-by_end : (client : Client) (moment : ℕ) (w : ClientState) (host : ℕ) (how : CheckHow) → IsAside client moment w (fact.CheckEnded host how)
kept-by_end client moment w host how = aside client moment w (fact.CheckEnded host how) (kept w (client_after client moment w (fact.CheckEnded host how)) refl refl) (λ o. refl)

pub kept-by_time : (client : Client) (moment : ℕ) (w : ClientState) (stamp : ℕ) → IsAside client moment w (fact.Time stamp)
kept-by_time client moment w stamp = aside client moment w (fact.Time stamp) (kept w (client_after client moment w (fact.Time stamp)) refl refl) (λ o. refl)

pub kept-by_conn_shut : (client : Client) (moment : ℕ) (w : ClientState) (host conn : ℕ) (reason : CloseReason) →
    IsAside client moment w (fact.ConnShut host conn reason)
kept-by_conn_shut client moment w host conn reason = aside client moment w (fact.ConnShut host conn reason) (kept w (client_after client moment w (fact.ConnShut host conn reason)) refl refl) (λ o. refl)

pub kept-by_shut : (client : Client) (moment : ℕ) (w : ClientState) (host : ℕ) → IsAside client moment w (fact.PoolShut host)
kept-by_shut client moment w host =
    aside client moment w (fact.PoolShut host)
    (by (stays_at (slice_get w.servers host)) (pool_after w moment (fact.PoolShut host)) (kept w (pool_after w moment (fact.PoolShut host)) refl refl)) (λ o. refl)
  where
    by : (b : Bool) (v : ClientState) → KeepsCommands w v → KeepsCommands w (if b then record v { is_ending = true } else v)
    by true v h = kept w (record v { is_ending = true }) h.commands h.sessions
    by false v h = h

pub kept-by_begin : (client : Client) (moment : ℕ) (w : ClientState) (host stream : ℕ) → IsAside client moment w (fact.CheckBegan host stream)
kept-by_begin client moment w host stream = aside client moment w (fact.CheckBegan host stream) (by (kept_at w host)) (λ o. refl)
  where
    by : (o : Option ℕ) → KeepsCommands w (with_server (stream_taken o stream w) host (check_begins moment stream))
    by None = kept w (with_server (stream_taken None stream w) host (check_begins moment stream)) refl refl
    by (Some x) = kept w (with_server (stream_taken (Some x) stream w) host (check_begins moment stream)) refl refl

pub kept-by_hello : (client : Client) (moment : ℕ) (w : ClientState) (place host : ℕ) (r : Request) → r.purpose ≡ purpose.Check host →
    IsAside client moment w (fact.Asked place r)
kept-by_hello client moment w place host r for =
    let same : client_after client moment w (fact.Asked place r) ≡ record w { requests = w.requests + 1 } =
    ap (λ (p : Purpose). commands_after (asked_event p) (asked_by moment p (farewell_by p r.stream (record w { requests = w.requests + 1 })))) for in
    aside client moment w (fact.Asked place r)
    (kept w (client_after client moment w (fact.Asked place r)) (ap (λ (v : ClientState). v.commands) same) (ap (λ (v : ClientState). v.sessions) same))
    (λ o. ap (asks_for o) for)

kept-offered : (moment : ℕ) (event : TopoEvent) (w : ClientState) → KeepsCommands w (offered_after moment event w)
kept-offered moment event w = by (is_accepted_verdict (verdict_on w event)) (topology_after w event) (asks (option_and_then (number_of w) (asks_of event)))
  where
    asks : (o : Option ℕ) → KeepsCommands w (asked_at moment o w)
    asks None = KeepsCommands-refl w
    asks (Some host) = kept w (asked_at moment (Some host) w) refl refl

    by : (b : Bool) (t : Topology) → KeepsCommands w (with_ask moment event w) →
        KeepsCommands w (record (if b then with_ask moment event w else w) { topology = t; events = w.events + 1 })
    by true t h = kept w (record (with_ask moment event w) { topology = t; events = w.events + 1 }) h.commands h.sessions
    by false t h = kept w (record w { topology = t; events = w.events + 1 }) refl refl

pub kept-by_offer : (client : Client) (moment : ℕ) (w : ClientState) (place : ℕ) (event : TopoEvent) (taken : OfferedHow) → IsAside client moment w (fact.Offered place event taken)
kept-by_offer client moment w place event taken = aside client moment w (fact.Offered place event taken) (kept-offered moment event w) (λ o. refl)

-- ---- Trails that grow beside them

pub Appends-room : {R : Type 0} (moment : ℕ) (old new : Recorded) (room : Room) → new ≡ record old { room = room } → AppendsAside R moment old new
Appends-room {R} moment old new room e = record {
  appends = grown-same moment old new (ap (λ (t : Recorded). t.client) e) (ap (λ (t : Recorded). t.lists) e) (ap (λ (t : Recorded). t.steps) e);
  aside = kept old.point.state new.point.state (ap (λ (t : Recorded). t.point.state.commands) e) (ap (λ (t : Recorded). t.point.state.sessions) e);
  ids = ap (λ (t : Recorded). t.lists.sessions) e;
}

pub Appends-refl : {R : Type 0} (moment : ℕ) (trail : Recorded) → AppendsAside R moment trail trail
Appends-refl {R} moment trail = Appends-room moment trail trail trail.room refl

pub Appends-same : {R : Type 0} (moment : ℕ) (old new : Recorded) → new ≡ old → AppendsAside R moment old new
Appends-same {R} moment old new e = Appends-room moment old new old.room e

pub Appends-trans : {R : Type 0} (moment : ℕ) (old between new : Recorded) → AppendsAside R moment old between → AppendsAside R moment between new →
    AppendsAside R moment old new
Appends-trans {R} moment old between new a b = record {
  appends = grown-trans moment old between new a.appends b.appends;
  aside = KeepsCommands-trans old.point.state between.point.state new.point.state a.aside b.aside;
  ids = b.ids ∙ a.ids;
}

-- where a call failed, one did that lasted as long or longer
pub Appends-weaken : {R S : Type 0} (moment : ℕ) (old new : Recorded) → (R → S) → AppendsAside R moment old new → AppendsAside S moment old new
Appends-weaken {R} {S} moment old new f a = record { appends = grown-weaken moment old new f a.appends; aside = a.aside; ids = a.ids }

-- by two calls, where a call of the net failed in either only where the count of its faults rose
pub Appends-rose : (m n k moment : ℕ) (old between new : Recorded) → m ≤ n → n ≤ k → AppendsAside (Rose m n) moment old between → AppendsAside (Rose n k) moment between new →
    AppendsAside (Rose m k) moment old new
Appends-rose m n k moment old between new first next a b =
    Appends-trans moment old between new (Appends-weaken moment old between (λ r. omega (arith, r, next)) a) (Appends-weaken moment between new (λ r. omega (arith, r, first)) b)

-- an entry that tells no failed call
pub Appends-quiet : {R : Type 0} (moment : ℕ) (old new : Recorded) → AppendsAside ⊥ moment old new → AppendsAside R moment old new
Appends-quiet {R} moment old new a = Appends-weaken moment old new (λ e. absurd e) a

pub Appends-adds : {R : Type 0} (used : Room) (lists : Lists) (moment : ℕ) (e : Entry) (told : Fact) (old new : Recorded) → AreLonger old.lists lists →
    Adds used lists moment e told old new → (tells_fault e ≡ true → R) → IsAside old.client moment old.point.state told → AppendsAside R moment old new
Appends-adds {R} used lists moment e told old new longer a quiet k = record {
  appends = grown-adds used lists moment e told old new (AreGrown-longer old.lists lists longer) a quiet k.names;
  aside =
      let state : new.point.state ≡ client_after old.client moment old.point.state told = ap (λ (p : Point). p.state) a.point_now in
      kept old.point.state new.point.state (ap (λ (w : ClientState). w.commands) state ∙ k.keeps.commands) (ap (λ (w : ClientState). w.sessions) state ∙ k.keeps.sessions);
  ids = ap (λ (l : Lists). l.sessions) a.lists_now ∙ longer.ids;
}
