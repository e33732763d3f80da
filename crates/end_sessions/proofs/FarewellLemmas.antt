-- A farewell that is asked: that it may stand, and the trail behind it.
use Rattle.std.proofs.Common.{◌≡◌, ◌≤◌, ℕ, ◌+◌, Bool, true, false, List, [], ◌∷◌, ◌++◌, length, Some, refl, sym, ap, ◌∙◌, subst, arith}
use Rattle.std.specs.Prelude.{All, nat_eq, slice_get}
use Rattle.std.specs.List.{list_any}
use Rattle.std.proofs.Math.ListN.{drop}
use Rattle.std.proofs.lemmas.List.{append-nil, append_assoc, length-append}
use Rattle.std.proofs.lemmas.List.Elements.{All-append, All-cons, All-nil}
use Rattle.bson_doc.specs.declared.ids.Lsid.{Lsid}
use Rattle.cmd_build.specs.Handshakes.{farewell_document}
use Rattle.entry_judge.specs.declared.timed.Timed.{Timed}
use Rattle.desk_trail.specs.declared.entry.Entry.TheVariants as entry
use Rattle.desk_trail.specs.declared.request.Purpose.{Purpose}
use Rattle.desk_trail.specs.declared.request.Purpose.TheVariants as purpose
use Rattle.desk_trail.specs.declared.request.Request.{Request}
use Rattle.desk_trail.specs.declared.step.Step.{Step}
use Rattle.desk_trail.specs.Attempts.{CommandAllows, asked_by, asked_event, commands_after}
use Rattle.desk_trail.specs.Clients.{Client}
use Rattle.desk_trail.specs.Facts.{Fact, Lists, facts_of}
use Rattle.desk_trail.specs.Facts as fact
use Rattle.desk_trail.specs.Legal.{InTime, MayGoOn, Point, StandsAt, client_after}
use Rattle.desk_trail.specs.Owed.{InTurn, MayAsk}
use Rattle.desk_trail.specs.Requests.{IsFarewell, IsFor, IsMessageOf, farewell_by, id_at}
use Rattle.desk_trail.specs.States.{ClientState}
use Rattle.desk_trail.specs.Written.{a_request, step_of}
use Rattle.legal_trail.specs.Recorded.{Adds, Recorded, told_in}
use Rattle.wired_trail.specs.Lines.{Lines}
use Rattle.end_sessions.specs.Carriers.{IsToAsk}
use Rattle.end_sessions.specs.Farewells.{AsksFarewell, AsksFarewells, MayCarry, asks}

-- ---- It may stand

goes-on : (b : Bool) (place : ℕ) (r : Request) → r.purpose ≡ purpose.Farewell → MayGoOn b (fact.Asked place r)
goes-on false place r q = tt
goes-on true place r q = q

pub StandsAt-farewell : (client : Client) (p : Point) (moment place : ℕ) (r : Request) → p.owed ≡ [] → p.moment ≤ moment → place ≡ p.state.requests → r.id ≡ id_at place →
    r.purpose ≡ purpose.Farewell → IsFarewell p.state moment r → StandsAt client p (record { at = moment; what = fact.Asked place r })
StandsAt-farewell client p moment place r paid time next id is_for farewell = let f = fact.Asked place r in record {
  time = subst (λ o. InTime o p.moment moment) (sym paid) time;
  turn = subst (λ o. InTurn o f) (sym paid) (subst MayAsk (sym is_for) tt);
  going = goes-on p.state.is_ending place r is_for;
  rule = record { next = next; id = id; is_for = subst (λ u. IsFor client p.state moment p.time u r) (sym is_for) farewell };
  command = subst (λ u. CommandAllows p.state (asked_event u)) (sym is_for) tt;
}

pub IsFarewell-next : (r : Recorded) (closings moment : ℕ) (lists : List (List Lsid)) (carriers : List ℕ) (lines : Lines) (request : Request) (ids : List Lsid) →
    IsToAsk r closings moment lists carriers → MayCarry r.point.state lines moment request.stream → list_any (nat_eq request.stream) carriers ≡ false →
    slice_get lists (length carriers) ≡ Some ids → IsMessageOf (farewell_document ids) request → IsFarewell r.point.state moment request
IsFarewell-next r closings moment lists carriers lines request ids ready may unused next message = record {
  minutes = ready.minutes;
  has_sessions = ready.kept;
  lists = lists;
  parted = ready.parted;
  ids = ids;
  next = subst (λ (c : List ℕ). slice_get lists (length c) ≡ Some ids) (sym ready.known) next;
  criteria = may.readable.criteria;
  prefers = may.readable.prefers;
  avoids = may.readable.avoids;
  host = may.host;
  server = may.server;
  at = may.at;
  stays = may.stays;
  selectable = may.readable.selectable;
  free = may.free;
  place = may.place;
  available = may.available;
  sound = may.is_free.sound;
  stream = may.is_free.on;
  unused = subst (λ (c : List ℕ). list_any (nat_eq request.stream) c ≡ false) (sym ready.known) unused;
  message = message;
}

-- ---- The client behind it

abbrev with_farewell : ClientState → ℕ → ClientState
with_farewell w stream = record w { requests = w.requests + 1; is_ending = true; farewells = w.farewells ++ stream ∷ [] }

behind-farewell : (client : Client) (w : ClientState) (moment place : ℕ) (r : Request) → r.purpose ≡ purpose.Farewell →
    client_after client moment w (fact.Asked place r) ≡ with_farewell w r.stream
behind-farewell client w moment place r is_for =
    let v : ClientState = record w { requests = w.requests + 1 } in
    ap (λ (y : Purpose). commands_after (asked_event y) (asked_by moment y (farewell_by y r.stream v))) is_for

-- the client with what asking changes taken from another
abbrev with_end : ClientState → ClientState → ClientState
with_end w v = record w { requests = v.requests; is_ending = v.is_ending; farewells = v.farewells }

-- ---- The trail behind it

abbrev with_these : Lists → List Request → Lists
with_these l requests = record l { requests = requests }

abbrev with_requests : List Request → Lists → Lists
with_requests more l = record l { requests = l.requests ++ more }

pub AsksFarewells-same : (moment : ℕ) (old new : Recorded) → new.client ≡ old.client → new.lists ≡ old.lists → new.steps ≡ old.steps → new.point ≡ old.point →
    old.point.state.requests ≡ length old.lists.requests → old.point.owed ≡ [] → old.point.moment ≤ moment → AsksFarewells moment old new
AsksFarewells-same moment old new client lists steps point counted paid time =
    let state : new.point.state ≡ old.point.state = ap (λ (p : Point). p.state) point in record {
      client = client;
      more = [];
      lists = lists ∙ ap (with_these old.lists) (sym (append-nil old.lists.requests));
      are = All-nil (λ (r : Request). r.purpose ≡ purpose.Farewell);
      added = [];
      steps = steps ∙ sym (append-nil old.steps);
      moments = All-nil (λ (s : Step). s.moment ≡ moment);
      each = All-nil (λ (s : Step). asks s.entry ≡ true);
      told = [];
      tells = ap (λ (l : Lists). facts_of l new.steps) lists ∙ ap (λ (ss : List Step). facts_of old.lists ss) steps ∙ sym (append-nil (told_in old));
      farewells = All-nil (λ (t : Timed Fact). AsksFarewell t.what);
      state = state ∙ sym (ap (with_end old.point.state) state);
      counted = ap (λ (w : ClientState). w.requests) state ∙ counted ∙ sym (ap (λ l. length l.requests) lists);
      paid = ap (λ (p : Point). p.owed) point ∙ paid;
      time = subst (λ (p : Point). p.moment ≤ moment) (sym point) time;
    }

pub farewells-one : (moment place : ℕ) (r : Request) (old new : Recorded) → Adds a_request (record old.lists { requests = old.lists.requests ++ r ∷ [] }) moment (entry.Asked place) (fact.Asked place r) old new →
    r.purpose ≡ purpose.Farewell → new.point.state.farewells ≡ old.point.state.farewells ++ r.stream ∷ []
farewells-one moment place r old new adds is_for =
    ap (λ (p : Point). p.state.farewells) adds.point_now ∙ ap (λ (w : ClientState). w.farewells) (behind-farewell old.client old.point.state moment place r is_for)

pub AsksFarewells-one : (moment place : ℕ) (r : Request) (old new : Recorded) → Adds a_request (record old.lists { requests = old.lists.requests ++ r ∷ [] }) moment (entry.Asked place) (fact.Asked place r) old new →
    r.purpose ≡ purpose.Farewell → old.point.state.requests ≡ length old.lists.requests → old.point.owed ≡ [] → AsksFarewells moment old new
AsksFarewells-one moment place r old new adds is_for counted paid =
    let state : new.point.state ≡ with_farewell old.point.state r.stream =
    ap (λ (p : Point). p.state) adds.point_now ∙ behind-farewell old.client old.point.state moment place r is_for in record {
      client = adds.same_client;
      more = r ∷ [];
      lists = adds.lists_now;
      are = All-cons (λ (x : Request). x.purpose ≡ purpose.Farewell) r [] is_for (All-nil (λ (x : Request). x.purpose ≡ purpose.Farewell));
      added = step_of moment (entry.Asked place) ∷ [];
      steps = adds.steps_now;
      moments = All-cons (λ (s : Step). s.moment ≡ moment) (step_of moment (entry.Asked place)) [] refl (All-nil (λ (s : Step). s.moment ≡ moment));
      each = All-cons (λ (s : Step). asks s.entry ≡ true) (step_of moment (entry.Asked place)) [] refl (All-nil (λ (s : Step). asks s.entry ≡ true));
      told = record { at = moment; what = fact.Asked place r } ∷ [];
      tells = adds.told_now;
      farewells = All-cons (λ (t : Timed Fact). AsksFarewell t.what) (record { at = moment; what = fact.Asked place r }) [] is_for
          (All-nil (λ (t : Timed Fact). AsksFarewell t.what));
      state = state ∙ sym (ap (with_end old.point.state) state);
      counted = ap (λ (w : ClientState). w.requests) state ∙ ap (λ n. n + 1) counted
          ∙ sym (ap (λ l. length l.requests) adds.lists_now ∙ length-append old.lists.requests (r ∷ []));
      paid = ap (λ (p : Point). p.owed) adds.point_now ∙ ap (drop 1) paid;
      time = subst (λ (p : Point). p.moment ≤ moment) (sym adds.point_now) (omega arith);
    }

pub AsksFarewells-trans : (moment : ℕ) (old between new : Recorded) → AsksFarewells moment old between → AsksFarewells moment between new → AsksFarewells moment old new
AsksFarewells-trans moment old between new a b = record {
  client = b.client ∙ a.client;
  more = a.more ++ b.more;
  lists = b.lists ∙ ap (with_requests b.more) a.lists
      ∙ ap (with_these old.lists) (append_assoc old.lists.requests a.more b.more);
  are = All-append (λ (r : Request). r.purpose ≡ purpose.Farewell) a.more b.more a.are b.are;
  added = a.added ++ b.added;
  steps = b.steps ∙ ap (λ l. l ++ b.added) a.steps ∙ append_assoc old.steps a.added b.added;
  moments = All-append (λ (s : Step). s.moment ≡ moment) a.added b.added a.moments b.moments;
  each = All-append (λ (s : Step). asks s.entry ≡ true) a.added b.added a.each b.each;
  told = a.told ++ b.told;
  tells = b.tells ∙ ap (λ l. l ++ b.told) a.tells ∙ append_assoc (told_in old) a.told b.told;
  farewells = All-append (λ (t : Timed Fact). AsksFarewell t.what) a.told b.told a.farewells b.farewells;
  state = b.state ∙ ap (λ (w : ClientState). with_end w new.point.state) a.state;
  counted = b.counted;
  paid = b.paid;
  time = b.time;
}
