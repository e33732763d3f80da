-- What a desk keeps stays so behind a look, and where a check that runs is noted as seen without an answer.
use Rattle.std.proofs.Common.{◌≡◌, ◌≤◌, ◌<◌, ℕ, ◌+◌, Bool, true, false, suc, zero, List, [], ◌∷◌, ◌++◌, length, map, Option, None, Some, Result, Ok, Err, inr, refl, sym, ap, ◌∙◌, subst, append_assoc, arith}
use Rattle.std.specs.Prelude.{IfOk, OnOk, drop, is_err, slice_get, take, slice_set, if◌then◌else◌}
use Rattle.std.proofs.lemmas.List.{append-nil, drop_all, length-map}
use Rattle.bson_doc.specs.declared.cluster_time.ClusterTime.{ClusterTime}
use Rattle.topo_rules.specs.declared.topology.Topology.{Topology}
use Rattle.watch_step.specs.Entries as check
use Rattle.write_retry.specs.declared.events.Next.TheVariants as next
use Rattle.server_pick.specs.Picks.{picks}
use Rattle.server_pick.specs.declared.picked.Picked.{Picked}
use Rattle.server_pick.specs.declared.picked.Picked.TheVariants as picked
use Rattle.server_pick.specs.declared.candidate.Candidate.{Candidate}
use Rattle.desk_trail.specs.declared.entry.Entry.{Entry}
use Rattle.desk_trail.specs.declared.entry.Entry.TheVariants as entry
use Rattle.desk_trail.specs.declared.step.Step.{Step}
use Rattle.desk_trail.specs.declared.entry.LookedHow.{LookedHow}
use Rattle.desk_trail.specs.declared.entry.LookedHow.TheVariants as looked
use Rattle.desk_trail.specs.Attempts.{OfCommand, command_step, commands_after}
use Rattle.desk_trail.specs.Checks.{AtServer, Runs, asked, with_checks}
use Rattle.desk_trail.specs.Clients.{Client, select_limit, threshold}
use Rattle.desk_trail.specs.Facts.{Lists, facts_of}
use Rattle.desk_trail.specs.Facts as fact
use Rattle.desk_trail.specs.Legal.{InTime, MayGoOn, Point, StandsAt, point_behind}
use Rattle.desk_trail.specs.Looks.{Concludes, IsLook, deadline, first_look, load_of, look_by, looked_after}
use Rattle.desk_trail.specs.Owed.{InTurn}
use Rattle.desk_trail.specs.States.{ClientState, CommandState, Selection, ServerState, changed_at}
use Rattle.desk_trail.specs.Written.{an_entry, step_of, with_entry}
use Rattle.legal_trail.specs.Recorded.{Adds, Recorded}
use Rattle.wired_trail.specs.Lines.{Lines as WireLines}
use Rattle.cmd_step.specs.Looked.{servers_behind}
use Rattle.desk_core.specs.Appends.{AppendsOf, NamesNone}
use Rattle.desk_core.specs.Kept.{IsKept, LeadsTo, client_of}
use Rattle.desk_core.specs.Looks.{HasLooked, IsAnswerOf, IsRead, StillSelects}
use Rattle.desk_core.specs.Picks.{IsPicked}
use Rattle.desk_core.specs.declared.progress.Progress.{Progress}
use Rattle.desk_core.specs.Servers.{AreKeptServers, IsKeptServer, closing_of, closings}
use Rattle.desk_core.specs.Steps.{IsWaiting, for_server}
use Rattle.desk_core.proofs.AppendsLemmas.{IsAside}
use Rattle.desk_core.proofs.CheckLemmas.{Changes, LeadsTo-changes}
use Rattle.desk_core.proofs.KeptLemmas.{length-with_entry, restated, servers-of}
use Rattle.desk_core.proofs.ServerLemmas.{AreKeptServers-more, AreKeptServers-set, closings-set_kept, slice_get-set_same}

-- ---- A check that runs is seen without an answer

-- the server behind it
abbrev pub dried : ℕ → ServerState → ServerState
dried moment s = record s { dry = Some moment }

pub StandsAt-dry : (client : Client) (p : Point) (moment host : ℕ) → p.owed ≡ [] → p.moment ≤ moment → p.state.is_ending ≡ false →
    AtServer p.state host (λ s. (began : ℕ) × Runs began s) → StandsAt client p (record { at = moment; what = fact.CheckDry host })
StandsAt-dry client p moment host paid at going rule = record {
  time = subst (λ o. InTime o p.moment moment) (sym paid) at;
  turn = subst (λ o. InTurn o (fact.CheckDry host)) (sym paid) tt;
  going = subst (λ b. MayGoOn b (fact.CheckDry host)) (sym going) tt;
  rule = rule;
  command = tt;
}

pub kept-by_dry : (client : Client) (moment : ℕ) (w : ClientState) (host : ℕ) → IsAside client moment w (fact.CheckDry host)
kept-by_dry client moment w host = record { keeps = record { commands = refl; sessions = refl }; names = λ o. refl }

Changes-dry : (old new : Recorded) (moment k : ℕ) (s : ServerState) (e : Entry) → Adds an_entry old.lists moment e (fact.CheckDry k) old new →
    slice_get old.point.state.servers k ≡ Some s → Changes old new k (dried moment s) × (new.point.state.requests ≡ old.point.state.requests)
Changes-dry old new moment k s e adds there =
    let w : ClientState = old.point.state in
    let t : ServerState = dried moment s in
    let is : new.point.state ≡ record w { servers = slice_set w.servers k t } =
    ap (λ (p : Point). p.state) adds.point_now ∙ ap (λ (o : Option ServerState). record w { servers = changed_at w.servers k o (dried moment) }) there in (
      record {
        client = adds.same_client;
        names = ap (λ (l : Lists). l.names) adds.lists_now;
        events = ap (λ (l : Lists). l.events) adds.lists_now;
        state = is ∙ ap (λ (v : ClientState). record w { servers = slice_set w.servers k t; streams = v.streams; requests = v.requests }) (sym is);
        time = ap (λ (p : Point). p.time) adds.point_now;
      },
      ap (λ (v : ClientState). v.requests) is,
    )

-- it was read then
pub IsRead-dry : (old new : Recorded) (moment k : ℕ) (s : ServerState) (e : Entry) → Adds an_entry old.lists moment e (fact.CheckDry k) old new →
    slice_get old.point.state.servers k ≡ Some s → IsRead new.point.state moment k
IsRead-dry old new moment k s e adds there = λ t here stays.
    let w : ClientState = old.point.state in
    let is : new.point.state.servers ≡ slice_set w.servers k (dried moment s) =
    ap (λ (p : Point). p.state.servers) adds.point_now ∙ ap (λ (o : Option ServerState). changed_at w.servers k o (dried moment)) there in
    let both : Some t ≡ Some (dried moment s) = sym here ∙ ap (λ (ss : List ServerState). slice_get ss k) is ∙ slice_get-set_same w.servers k (dried moment s) s there in
    let same : t ≡ dried moment s = (cc) in
    inr (ap (λ (u : ServerState). u.dry) same)

IsKeptServer-dry : (lines : WireLines) (m n k moment : ℕ) (s : ServerState) → m ≤ n → IsKeptServer lines m k s → IsKeptServer lines n k (dried moment s)
IsKeptServer-dry lines m n k moment s more kept = record {
  paid = kept.paid;
  is_open = kept.is_open;
  generation = let g = kept.generation in omega arith;
  entered = let g = kept.entered in omega arith;
  checked = kept.checked;
  paced = kept.paced;
}

LeadsTo-dry : (old new : Recorded) (lines : WireLines) (topology : Topology) (ss : List ServerState) (time : Option ClusterTime) (last moment k : ℕ) (s : ServerState) (e : Entry) →
    Adds an_entry old.lists moment e (fact.CheckDry k) old new → slice_get ss k ≡ Some s → moment ≤ last → closings ss ≤ new.room.steps →
    LeadsTo old lines topology ss time last → LeadsTo new lines topology (slice_set ss k (dried moment s)) time last
LeadsTo-dry old new lines topology ss time last moment k s e adds there at room l =
    let servers = servers-of old lines topology ss time last l in
    let m = Changes-dry old new moment k s e adds (ap (λ zs. slice_get zs k) servers ∙ there) in
    let t : ServerState = dried moment s in
    let steps : length new.steps ≡ length old.steps + 1 = ap length adds.steps_now ∙ length-with_entry old.steps moment e in
    let counted : old.point.state.requests ≡ length old.lists.requests = ap (λ (w : ClientState). w.requests) l.state in
    let moment_now : new.point.moment ≡ moment = ap (λ (p : Point). p.moment) adds.point_now in
    LeadsTo-changes old new lines lines topology ss time last k s t m.0 (m.1 ∙ counted ∙ ap (λ (x : Lists). length x.requests) (sym adds.lists_now)) there refl refl
    (omega arith) room
    (AreKeptServers-set lines (length new.steps) ss k t (AreKeptServers-more lines (length old.steps) (length new.steps) ss (omega arith) l.kept)
    (IsKeptServer-dry lines (length old.steps) (length new.steps) k moment s (omega arith) (l.kept k s there)))
    l

pub IsKept-dry : (old new : Recorded) (before lines : WireLines) (topology : Topology) (ss : List ServerState) (time : Option ClusterTime) (count last moment k : ℕ) (stopped : Bool)
    (s t : ServerState) (e : Entry) →
    Adds an_entry old.lists moment e (fact.CheckDry k) old new → slice_get ss k ≡ Some s → lines ≡ before → last ≡ moment → count ≤ new.room.steps →
    t ≡ dried moment s → IsKept old before topology ss time count last stopped → IsKept new lines topology (slice_set ss k t) time count last stopped
IsKept-dry old new before lines topology ss time count last moment k stopped s t e adds there same at room is kept =
    let counted = kept.counted in
    subst (λ (l : WireLines). IsKept new l topology (slice_set ss k t) time count last stopped) (sym same)
    (subst (λ (u : ServerState). IsKept new before topology (slice_set ss k u) time count last stopped) (sym is)
    (record {
      leads = λ runs. LeadsTo-dry old new before topology ss time last moment k s e adds there (omega arith) (omega arith) (kept.leads runs);
      counted = kept.counted ∙ sym (closings-set_kept ss k s (dried moment s) there refl);
      in_range = kept.in_range;
    }))

-- ---- A look

-- what is so of an answer, by what is so of it
pub IfOk-by : {A E : Type 0} (r : Result A E) (P Q : A → Type 0) → ((a : A) → P a → Q a) → IfOk r P → IfOk r Q
IfOk-by (Ok a) P Q f h = f a h
IfOk-by (Err e) P Q f h = h

-- where it is no error
pub OnOk-unless : {A E : Type 0} (r : Result A E) (b : Bool) (P : Type 0) → b ≡ is_err r → b ≡ false → OnOk r P → P
OnOk-unless (Ok a) b P is fails h = h
OnOk-unless (Err e) b P is fails h = absurd (let both : true ≡ false = sym is ∙ fails in (cc))

servers-told : (o : Option OfCommand) (w : ClientState) → (commands_after o w).servers ≡ w.servers
servers-told None w = refl
servers-told (Some e) w = refl

servers-asked : (moment op : ℕ) (how : LookedHow) (w : ClientState) → (looked_after moment op how w).servers ≡ servers_behind moment how w.servers
servers-asked moment op (looked.Chosen host) w = refl
servers-asked moment op looked.NoneFits w = refl
servers-asked moment op looked.Failed w = refl
servers-asked moment op (looked.Incompatible host) w = refl

pub servers-looked : (old new : Recorded) (moment op a b : ℕ) (kept : List ℕ) (how : LookedHow) (e : Entry) →
    Adds an_entry old.lists moment e (fact.Looked op a b kept how) old new → new.point.state.servers ≡ servers_behind moment how old.point.state.servers
servers-looked old new moment op a b kept how e adds =
    ap (λ (p : Point). p.state.servers) adds.point_now
    ∙ servers-told (command_step old.client old.point.state (fact.Looked op a b kept how)) (looked_after moment op how old.point.state)
    ∙ servers-asked moment op how old.point.state

-- of which a check is asked for
abbrev asked_by : ℕ → Bool → ServerState → ServerState
asked_by moment left s = if left then s else with_checks moment check.Asked s

IsKeptServer-by : (lines : WireLines) (n x moment : ℕ) (left : Bool) (s : ServerState) → IsKeptServer lines n x s → IsKeptServer lines n x (asked_by moment left s)
IsKeptServer-by lines n x moment true s k = k
IsKeptServer-by lines n x moment false s k = record {
  paid = k.paid;
  is_open = k.is_open;
  generation = k.generation;
  entered = k.entered;
  checked = k.checked;
  paced = k.paced;
}

IsKeptServer-asked : (lines : WireLines) (n x moment : ℕ) (s : ServerState) → IsKeptServer lines n x s → IsKeptServer lines n x (asked moment s)
IsKeptServer-asked lines n x moment s k = IsKeptServer-by lines n x moment s.has_left s k

address-by : (moment : ℕ) (left : Bool) (s : ServerState) → (asked_by moment left s).address ≡ s.address
address-by moment true s = refl
address-by moment false s = refl

closing-by : (moment : ℕ) (left : Bool) (s : ServerState) → closing_of (asked_by moment left s) ≡ closing_of s
closing-by moment true s = refl
closing-by moment false s = refl

addresses-asked : (moment : ℕ) (ss : List ServerState) → map (λ (s : ServerState). s.address) (map (asked moment) ss) ≡ map (λ (s : ServerState). s.address) ss
addresses-asked moment [] = refl
addresses-asked moment (s ∷ ss) = λ i. address-by moment s.has_left s i ∷ addresses-asked moment ss i

closings-asked : (moment : ℕ) (ss : List ServerState) → closings (map (asked moment) ss) ≡ closings ss
closings-asked moment [] = refl
closings-asked moment (s ∷ ss) = λ i. closing-by moment s.has_left s i + closings-asked moment ss i

slice_get-map : {A B : Type 0} (f : A → B) (xs : List A) (i : ℕ) (y : B) → slice_get (map f xs) i ≡ Some y → (x : A) × (slice_get xs i ≡ Some x) × (y ≡ f x)
slice_get-map f [] i y h = absurd (cc)
slice_get-map f (x ∷ xs) zero y h = (x, refl, (cc))
slice_get-map f (x ∷ xs) (suc i) y h = slice_get-map f xs i y h

AreKeptServers-asked : (lines : WireLines) (n moment : ℕ) (ss : List ServerState) → AreKeptServers lines n ss → AreKeptServers lines n (map (asked moment) ss)
AreKeptServers-asked lines n moment ss k = λ x t e.
    let m = slice_get-map (asked moment) ss x t e in
    subst (λ u. IsKeptServer lines n x u) (sym m.2) (IsKeptServer-asked lines n x moment m.0 (k x m.0 m.1))

-- what is kept of servers behind a look
record AreBehind (lines : WireLines) (n : ℕ) (ss ts : List ServerState) : Type 0 where
  pub kept : AreKeptServers lines n ts
  pub addresses : map (λ (s : ServerState). s.address) ts ≡ map (λ (s : ServerState). s.address) ss
  pub closing : closings ts ≡ closings ss
  pub count : length ts ≡ length ss

AreBehind-same : (lines : WireLines) (n : ℕ) (ss : List ServerState) → AreKeptServers lines n ss → AreBehind lines n ss ss
AreBehind-same lines n ss k = record { kept = k; addresses = refl; closing = refl; count = refl }

AreBehind-looked : (lines : WireLines) (n moment : ℕ) (how : LookedHow) (ss : List ServerState) → AreKeptServers lines n ss → AreBehind lines n ss (servers_behind moment how ss)
AreBehind-looked lines n moment (looked.Chosen host) ss k = AreBehind-same lines n ss k
AreBehind-looked lines n moment looked.NoneFits ss k = record {
  kept = AreKeptServers-asked lines n moment ss k;
  addresses = addresses-asked moment ss;
  closing = closings-asked moment ss;
  count = length-map ss (asked moment);
}
AreBehind-looked lines n moment looked.Failed ss k = AreBehind-same lines n ss k
AreBehind-looked lines n moment (looked.Incompatible host) ss k = AreBehind-same lines n ss k

closings-looked : (moment : ℕ) (how : LookedHow) (ss : List ServerState) → closings (servers_behind moment how ss) ≡ closings ss
closings-looked moment (looked.Chosen host) ss = refl
closings-looked moment looked.NoneFits ss = closings-asked moment ss
closings-looked moment looked.Failed ss = refl
closings-looked moment (looked.Incompatible host) ss = refl

LeadsTo-looked : (old new : Recorded) (lines : WireLines) (topology : Topology) (ss ts : List ServerState) (cs : List CommandState) (time : Option ClusterTime)
    (last moment op a b : ℕ) (kept : List ℕ) (how : LookedHow) (e : Entry) →
    Adds an_entry old.lists moment e (fact.Looked op a b kept how) old new → new.point.state ≡ record old.point.state { servers = ts; commands = cs } →
    ts ≡ servers_behind moment how ss → moment ≤ last → closings ss ≤ new.room.steps →
    LeadsTo old lines topology ss time last → LeadsTo new lines topology ts time last
LeadsTo-looked old new lines topology ss ts cs time last moment op a b kept how e adds moved is at room h =
    let steps : length new.steps ≡ length old.steps + 1 = ap length adds.steps_now ∙ length-with_entry old.steps moment e in
    let moment_now : new.point.moment ≡ moment = ap (λ (p : Point). p.moment) adds.point_now in
    let behind : AreBehind lines (length new.steps) ss ts =
    subst (λ zs. AreBehind lines (length new.steps) ss zs) (sym is)
    (AreBehind-looked lines (length new.steps) moment how ss (AreKeptServers-more lines (length old.steps) (length new.steps) ss (omega arith) h.kept)) in
    record {
      state =
          restated new (record (client_of old topology ss) { servers = ts; commands = cs }) (length old.lists.events) (length old.lists.requests) topology ts
          (moved ∙ ap (λ (w : ClientState). record w { servers = ts; commands = cs }) h.state) refl
          (ap (λ (l : Lists). length l.events) (sym adds.lists_now)) (ap (λ (l : Lists). length l.requests) (sym adds.lists_now));
      greatest = ap (λ (p : Point). p.time) adds.point_now ∙ h.greatest;
      moment = omega arith;
      names = ap (λ (l : Lists). l.names) adds.lists_now ∙ h.names ∙ sym behind.addresses;
      numbers = rw behind.count h.numbers;
      room = rw behind.closing room;
      kept = behind.kept;
    }

pub IsKept-looked : (old new : Recorded) (before lines : WireLines) (topology : Topology) (ss ts : List ServerState) (cs : List CommandState) (time : Option ClusterTime)
    (count last moment op a b : ℕ) (stopped : Bool) (kept : List ℕ) (how : LookedHow) (e : Entry) →
    Adds an_entry old.lists moment e (fact.Looked op a b kept how) old new → new.point.state ≡ record old.point.state { servers = ts; commands = cs } →
    stopped ≡ false → lines ≡ before → last ≡ moment → count ≤ new.room.steps →
    IsKept old before topology ss time count last stopped → IsKept new lines topology ts time count last stopped
IsKept-looked old new before lines topology ss ts cs time count last moment op a b stopped kept how e adds moved runs same at room k =
    let counted = k.counted in
    let h = k.leads runs in
    let is : ts ≡ servers_behind moment how ss =
    ap (λ (w : ClientState). w.servers) (sym moved) ∙ servers-looked old new moment op a b kept how e adds
    ∙ ap (servers_behind moment how) (servers-of old before topology ss time last h) in
    subst (λ (l : WireLines). IsKept new l topology ts time count last stopped) (sym same)
    (record {
      leads = λ r. LeadsTo-looked old new before topology ss ts cs time last moment op a b kept how e adds moved is (omega arith) (omega arith) h;
      counted = counted ∙ sym (ap closings is ∙ closings-looked moment how ss);
      in_range = k.in_range;
    })

-- what a list becomes that is lent and written back whole
take-whole : {A : Type 0} (n : ℕ) (xs : List A) → length xs ≤ n → take n xs ≡ xs
take-whole zero [] h = refl
take-whole (suc n) [] h = refl
take-whole zero (x ∷ xs) h = absurd (omega arith)
take-whole (suc n) (x ∷ xs) h = ap (λ ys. x ∷ ys) (take-whole n xs (omega arith))

pub written-back : {A : Type 0} (n : ℕ) (xs items : List A) → length xs ≡ length items → length items ≤ n → take n (xs ++ drop (length xs) items) ≡ xs
written-back n xs items same room =
    ap (λ ys. take n (xs ++ ys)) (drop_all (length xs) items (omega arith)) ∙ ap (take n) (append-nil xs) ∙ take-whole n xs (omega arith)

-- ---- What came of a look

-- the trail ahead of it, its entry, and what came behind it
pub HasLooked-by : {P : Type 0} (allows : P → Candidate → Bool) (follows : P → Candidate → P → Type 0) (failed : Type 0) (moment op a b : ℕ) (c : CommandState)
    (old ahead told new : Recorded) (p q : P) (answer : Progress) (kept : List ℕ) (how : LookedHow) (rest : List Step) →
    (moment < deadline old.client c moment → ahead ≡ old) → AppendsOf failed NamesNone moment old ahead →
    ahead.point ≡ point_behind ahead.client (facts_of ahead.lists ahead.steps) →
    told.steps ≡ with_entry ahead.steps moment (entry.Looked op a b kept how) → new.steps ≡ told.steps ++ rest →
    IsPicked allows follows ahead.client ahead.point.state op c p kept q → IsAnswerOf answer how →
    HasLooked allows follows failed moment op a b c old new p q answer
HasLooked-by allows follows failed moment op a b c old ahead told new p q answer kept how rest early grows leads tells more picked answers = record {
  ahead = ahead;
  early = early;
  grows = grows;
  leads = leads;
  kept = kept;
  how = how;
  rest = rest;
  steps =
      more ∙ ap (λ (xs : List Step). xs ++ rest) tells
      ∙ append_assoc ahead.steps (step_of moment (entry.Looked op a b kept how) ∷ []) rest;
  picked = picked;
  answers = answers;
}

-- ---- What a look that found none left

ahead-of : (client : Client) (w : ClientState) (c : CommandState) (moment : ℕ) (p : Picked) → Concludes client w c moment p looked.NoneFits → moment < deadline client c moment
ahead-of client w c moment (picked.Chosen address) h = absurd h
ahead-of client w c moment (picked.Incompatible address min max) h = absurd h
ahead-of client w c moment picked.NoneFits h = h
ahead-of client w c moment picked.Memory h = absurd h

pub StillSelects-looked : (old new : Recorded) (moment op a b : ℕ) (kept : List ℕ) (how : LookedHow) (e : Entry) (ts : List ServerState) (c d : CommandState) →
    how ≡ looked.NoneFits → Adds an_entry old.lists moment e (fact.Looked op a b kept how) old new →
    new.point.state ≡ record old.point.state { servers = ts; commands = slice_set old.point.state.commands op d } →
    slice_get old.point.state.commands op ≡ Some c → c.op.next ≡ next.Select → IsLook old.client old.point.state moment op a b kept how →
    StillSelects old.client moment c d
StillSelects-looked old new moment op a b kept how e ts c d none adds moved there selects looks =
    let w : ClientState = old.point.state in
    let f : CommandState → CommandState = look_by w moment looked.NoneFits in
    let adds_none = subst (λ (h : LookedHow). Adds an_entry old.lists moment e (fact.Looked op a b kept h) old new) none adds in
    let looks_none = subst (λ (h : LookedHow). IsLook old.client w moment op a b kept h) none looks in
    let by : new.point.state.commands ≡ slice_set w.commands op (f c) =
    ap (λ (p : Point). p.state.commands) adds_none.point_now ∙ ap (λ (o : Option CommandState). changed_at w.commands op o f) there in
    let both : Some d ≡ Some (f c) =
    sym (slice_get-set_same w.commands op d c there) ∙ ap (λ (cs : List CommandState). slice_get cs op) (sym (ap (λ (v : ClientState). v.commands) moved) ∙ by)
    ∙ slice_get-set_same w.commands op (f c) c there in
    let is : d ≡ f c = (cc) in
    let one : Some looks_none.running ≡ Some c = sym looks_none.there ∙ there in
    let same : looks_none.running ≡ c = (cc) in
    record {
      selection = record { first = first_look c moment; known = length w.servers };
      goes_on = ap (λ (x : CommandState). x.selection) is;
      first = refl;
      selects = ap (λ (x : CommandState). x.op.next) is ∙ selects;
      ahead =
          subst (λ x. moment < deadline old.client x moment) same
          (ahead-of old.client w looks_none.running moment (picks w.topology.servers (threshold old.client) looks_none.addresses (load_of w) a b) looks_none.concludes);
    }

pub IsWaiting-selects : (client : Client) (w : ClientState) (moment until : ℕ) (c d : CommandState) → StillSelects client moment c d → until ≡ deadline client c moment →
    IsWaiting client w moment until d
IsWaiting-selects client w moment until c d s is =
    let ahead = s.ahead in
    let same : first_look d moment ≡ first_look c moment = ap (λ (o : Option Selection). first_look (record d { selection = o }) moment) s.goes_on ∙ s.first in
    let behind : deadline client d moment ≡ deadline client c moment = ap (λ n. n + select_limit client) same in
    record {
      for_what = for_server s.selection s.selects s.goes_on (is ∙ sym behind);
      later = omega arith;
    }
