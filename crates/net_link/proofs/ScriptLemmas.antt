-- The streams of a scripted net behind a dial, a read and a close.
use Rattle.std.proofs.Common.{◌≡◌, ℕ, zero, suc, ◌+◌, ◌<◌, ◌≤◌, true, false, cond, List, [], ◌∷◌, ◌++◌, length, map, take, drop, set, get_or, refl, ap, sym, ◌∙◌, eqb, ne_eqb, arith, length-append}
use Rattle.std.proofs.lemmas.List.{get_or-set_same, get_or-set_other, get_or_append_left, length-set, length-take, length-take-le, length_push, nil_from_length, get_or_read, take-append-drop, take_min}
use Rattle.std.proofs.lemmas.List.Elements.{All-push}
use Rattle.net_link.specs.Events.{Adds, IsFresh, is_at}
use Rattle.net_link.specs.Calls.{IfStream, IsNewStream, read_events}
use Rattle.net_link.specs.Inbox.{Arrives, ArrivesBut, ReadsInbox}
use Rattle.net_link.specs.Keeps.{all, all_but, all_but_inbox_of}
use Rattle.net_link.specs.Streams.{KeepsOpen, KeepsOpenBut, StaysEnded}
use Rattle.net_link.specs.Told.{Told}
use Rattle.net_link.specs.Script.{Script, Line, gone, opened, shut, skipped, line_at, piece_size, IsLive, Ends, unread, live_count, IsLive-below, IsSound, IsGiven, ScriptKeeps, close_state, dial_state, read_state}
use Rattle.net_link.specs.declared.event.NetEvent.{NetEvent}
use Rattle.net_link.specs.declared.event.NetEvent.TheVariants as event
use Rattle.net_link.specs.declared.net.Came.{Came}
use Rattle.net_link.specs.declared.net.Came.TheVariants as came
use Rattle.net_link.specs.declared.net.Dialed.{Dialed}
use Rattle.net_link.specs.declared.net.Dialed.TheVariants as dialed
use Rattle.net_link.specs.declared.stream_plan.StreamPlan.{StreamPlan}
use Rattle.net_link.proofs.EventLemmas.{Adds-none, Adds-one}
use Rattle.net_link.proofs.PrefixLemmas.{IsPrefixOf-same, IsPrefixOf-from_eq}

-- What a line in the place of another keeps of it, each place keeps.
pub read-set : {X : Type 0} (f : Line → X) (lines : List Line) (t : ℕ) (line : Line) (u : ℕ) → f line ≡ f (line_at lines t) → f (get_or (set lines t line) u gone) ≡ f (get_or lines u gone)
read-set f [] t line u same = refl
read-set f (x ∷ xs) zero line zero same = same
read-set f (x ∷ xs) zero line (suc u) same = refl
read-set f (x ∷ xs) (suc t) line zero same = refl
read-set f (x ∷ xs) (suc t) line (suc u) same = read-set f xs t line u same

pub ruleset live_below = (IsLive-below)

pub Ends-below : (lines : List Line) (t : ℕ) → Ends lines t → t < length lines
unfolding Ends
Ends-below [] t ends = absurd (let e : false ≡ true = ends in let never : ⊥ = cc in never)
Ends-below (line ∷ lines) zero ends = omega arith
Ends-below (line ∷ lines) (suc t) ends = omega (arith, Ends-below lines t ends)

-- A stream that was read is as open, and as ended, as before; the other inboxes are as before.
pub KeepsOpen-skipped : (lines : List Line) (t n : ℕ) → KeepsOpen (IsLive lines) (IsLive (set lines t (skipped n (line_at lines t))))
unfolding IsLive
KeepsOpen-skipped lines t n u live = read-set (λ l. l.live) lines t (skipped n (line_at lines t)) u refl ∙ live

pub StaysEnded-skipped : (lines : List Line) (t n : ℕ) → StaysEnded (Ends lines) (Ends (set lines t (skipped n (line_at lines t))))
unfolding Ends
StaysEnded-skipped lines t n u ends = read-set (λ l. l.ends) lines t (skipped n (line_at lines t)) u refl ∙ ends

pub ArrivesBut-set : (lines : List Line) (t : ℕ) (line : Line) → ArrivesBut t (IsLive lines) (unread lines) (unread (set lines t line))
unfolding unread
ArrivesBut-set lines t line u other live = IsPrefixOf-from_eq (get_or lines u gone).left (get_or (set lines t line) u gone).left
    (sym (ap (λ l. l.left) (get_or-set_other lines t u line gone other)))

pub unread-skipped : (lines : List Line) (t n : ℕ) → t < length lines → unread (set lines t (skipped n (line_at lines t))) t ≡ drop n (unread lines t)
unfolding unread
unread-skipped lines t n given = ap (λ l. l.left) (get_or-set_same lines t (skipped n (line_at lines t)) gone given)

-- A stream that was closed is not open, the others are as open, and all as ended, as before.
pub KeepsOpenBut-set : (lines : List Line) (t : ℕ) (line : Line) → KeepsOpenBut t (IsLive lines) (IsLive (set lines t line))
unfolding IsLive
KeepsOpenBut-set lines t line u other live = ap (λ l. l.live) (get_or-set_other lines t u line gone other) ∙ live

pub StaysEnded-shut : (lines : List Line) (t : ℕ) → StaysEnded (Ends lines) (Ends (set lines t (shut (line_at lines t))))
unfolding Ends
StaysEnded-shut lines t u ends = read-set (λ l. l.ends) lines t (shut (line_at lines t)) u refl ∙ ends

pub IsLive-shut : (lines : List Line) (t : ℕ) → t < length lines → ¬ IsLive (set lines t (shut (line_at lines t))) t
unfolding IsLive
IsLive-shut lines t given live =
    let closed : (get_or (set lines t (shut (line_at lines t))) t gone).live ≡ false = ap (λ l. l.live) (get_or-set_same lines t (shut (line_at lines t)) gone given) in
    let e : false ≡ true = sym closed ∙ live in cc

-- Streams behind those that were there change none of these.
pub KeepsOpen-append : (lines more : List Line) → KeepsOpen (IsLive lines) (IsLive (lines ++ more))
KeepsOpen-append lines more u live =
    unfold IsLive in ap (λ l. l.live) (get_or_append_left lines more gone u (IsLive-below lines u live)) ∙ live

pub StaysEnded-append : (lines more : List Line) → StaysEnded (Ends lines) (Ends (lines ++ more))
StaysEnded-append lines more u ends =
    unfold Ends in ap (λ l. l.ends) (get_or_append_left lines more gone u (Ends-below lines u ends)) ∙ ends

pub Arrives-append : (lines more : List Line) → Arrives (IsLive lines) (unread lines) (unread (lines ++ more))
Arrives-append lines more u live = IsPrefixOf-from_eq (unread lines u) (unread (lines ++ more) u)
    (unfold unread in sym (ap (λ l. l.left) (get_or_append_left lines more gone u (IsLive-below lines u live))))

pub Arrives-same : (lines : List Line) → Arrives (IsLive lines) (unread lines) (unread lines)
Arrives-same lines u live = IsPrefixOf-same (unread lines u)

-- The stream that a dial opens.
pub IsLive-push : (lines : List Line) (line : Line) → line.live ≡ true → IsLive (lines ++ line ∷ []) (length lines)
unfolding IsLive
IsLive-push [] line live = live
IsLive-push (x ∷ xs) line live = IsLive-push xs line live

-- How many streams are open.
pub live_count-push : (lines : List Line) (line : Line) → live_count (lines ++ line ∷ []) ≤ live_count lines + 1
unfolding live_count
live_count-push [] line = elim line.live as (λ b. cond b 1 0 + 0 ≤ 1) [ true ↦ omega arith | false ↦ omega arith ]
live_count-push (x ∷ xs) line = omega (arith, live_count-push xs line)

pub live_count-skipped : (lines : List Line) (t n : ℕ) → live_count (set lines t (skipped n (line_at lines t))) ≡ live_count lines
unfolding live_count
live_count-skipped [] t n = refl
live_count-skipped (x ∷ xs) zero n = refl
live_count-skipped (x ∷ xs) (suc t) n = ap (λ k. cond x.live 1 0 + k) (live_count-skipped xs t n)

pub live_count-shut : (lines : List Line) (t : ℕ) → IsLive lines t → live_count (set lines t (shut (line_at lines t))) + 1 ≡ live_count lines
unfolding live_count IsLive
live_count-shut [] t live = absurd (let e : false ≡ true = live in let never : ⊥ = cc in never)
live_count-shut (x ∷ xs) zero live = rw live (omega arith)
live_count-shut (x ∷ xs) (suc t) live = omega (arith, live_count-shut xs t live)

-- The transitions keep what is promised of the lines and the history.
pub IsSound-nil : (lines : List Line) (log : Told) → lines ≡ [] → log.events ≡ [] → IsSound lines log
IsSound-nil lines log none empty = record {
  kept = rw none (unfold live_count in omega arith);
  fresh = λ s beyond k d within. let none_there : k < length {A = NetEvent} [] = rw empty at within in absurd (omega arith);
}

-- No event of a stream that was given names one that was not.
pub is_at-given : (t n s : ℕ) → t < n → n ≤ s → eqb t s ≡ false
is_at-given t n s given beyond = ne_eqb t s (λ e. omega arith)

pub fresh-push : (n : ℕ) (h : List NetEvent) (e : NetEvent) → ((s : ℕ) → n ≤ s → IsFresh s h) → ((s : ℕ) → n ≤ s → is_at e s ≡ false) → (s : ℕ) → n ≤ s → IsFresh s (h ++ e ∷ [])
fresh-push n h e old new s beyond = All-push (λ x. is_at x s ≡ false) h e (old s beyond) (new s beyond)

pub IsSound-skipped : (lines : List Line) (t n : ℕ) (log : Told) → IsSound lines log → IsSound (set lines t (skipped n (line_at lines t))) log
IsSound-skipped lines t n log sound = record {
  kept = rw live_count-skipped sound.kept;
  fresh = rw length-set sound.fresh;
}

pub IsSound-shut : (lines : List Line) (t : ℕ) (log later : Told) → IsLive lines t → IsSound lines log
    → later.events ≡ log.events ++ event.Closed t ∷ [] → later.kept + 1 ≡ log.kept → IsSound (set lines t (shut (line_at lines t))) later
IsSound-shut lines t log later live sound events kept = record {
  kept = omega (arith, live_count-shut lines t live, sound.kept);
  fresh = rw (length-set, events) (fresh-push (length lines) log.events (event.Closed t) sound.fresh
      (λ s beyond. is_at-given t (length lines) s (IsLive-below lines t live) beyond));
}

pub IsSound-opened : (lines : List Line) (line : Line) (address : List ℕ) (log later : Told) → IsSound lines log
    → later.events ≡ log.events ++ event.Dialled (length lines) address ∷ [] → later.kept ≡ log.kept + 1 → IsSound (lines ++ line ∷ []) later
IsSound-opened lines line address log later sound events kept =
    let longer = length_push lines line in
    record {
      kept = omega (arith, live_count-push lines line, sound.kept);
      fresh = rw events (fresh-push (length (lines ++ line ∷ [])) log.events (event.Dialled (length lines) address)
          (λ s beyond. sound.fresh s (omega arith))
          (λ s beyond. is_at-given (length lines) (length (lines ++ line ∷ [])) s (omega arith) beyond));
    }

-- An open stream has its event's memory kept.
pub live_count-positive : (lines : List Line) (t : ℕ) → IsLive lines t → 0 < live_count lines
live_count-positive lines t live = omega (arith, live_count-shut lines t live)

-- What the trait says of the streams behind a dial and a read, by the state that they leave.
KeepsOpen-dial : (address : List ℕ) (answer : Dialed) (s : Script) → KeepsOpen (IsLive s.lines) (IsLive (dial_state address answer s).lines)
KeepsOpen-dial address (dialed.Stream t) s = KeepsOpen-append s.lines (map opened (take 1 s.plans))
KeepsOpen-dial address dialed.Failed s = λ u live. live
KeepsOpen-dial address dialed.Memory s = λ u live. live

StaysEnded-dial : (address : List ℕ) (answer : Dialed) (s : Script) → StaysEnded (Ends s.lines) (Ends (dial_state address answer s).lines)
StaysEnded-dial address (dialed.Stream t) s = StaysEnded-append s.lines (map opened (take 1 s.plans))
StaysEnded-dial address dialed.Failed s = λ u ends. ends
StaysEnded-dial address dialed.Memory s = λ u ends. ends

Arrives-dial : (address : List ℕ) (answer : Dialed) (s : Script) → Arrives (IsLive s.lines) (unread s.lines) (unread (dial_state address answer s).lines)
Arrives-dial address (dialed.Stream t) s = Arrives-append s.lines (map opened (take 1 s.plans))
Arrives-dial address dialed.Failed s = Arrives-same s.lines
Arrives-dial address dialed.Memory s = Arrives-same s.lines

numbers-dial : (address : List ℕ) (answer : Dialed) (s : Script) → length s.lines ≤ length (dial_state address answer s).lines
numbers-dial address (dialed.Stream t) s = omega (arith, length-append s.lines (map opened (take 1 s.plans)))
numbers-dial address dialed.Failed s = omega arith
numbers-dial address dialed.Memory s = omega arith

IsNewStream-opened : (t : ℕ) (lines : List Line) (plans : List StreamPlan) → 0 < length plans → t ≡ length lines
    → IsNewStream (length lines) (length (lines ++ map opened (take 1 plans))) (IsLive (lines ++ map opened (take 1 plans))) t
IsNewStream-opened t lines [] some number = absurd (omega arith)
IsNewStream-opened t lines (plan ∷ plans) some number =
    let longer = length_push lines (opened plan) in
    (omega arith, omega arith, rw number (IsLive-push lines (opened plan) refl))

pub IsNewStream-dial : (address : List ℕ) (answer : Dialed) (s : Script) → 0 < length s.plans → IfStream answer (λ t. t ≡ length s.lines)
    → IfStream answer (IsNewStream (length s.lines) (length (dial_state address answer s).lines) (IsLive (dial_state address answer s).lines))
IsNewStream-dial address (dialed.Stream t) s some number = IsNewStream-opened t s.lines s.plans some number
IsNewStream-dial address dialed.Failed s some number = tt
IsNewStream-dial address dialed.Memory s some number = tt

KeepsOpen-read : (t : ℕ) (into : List ℕ) (answer : Came) (s : Script) → KeepsOpen (IsLive s.lines) (IsLive (read_state t into answer s).lines)
KeepsOpen-read t into (came.Got n) s = KeepsOpen-skipped s.lines t n
KeepsOpen-read t into came.NotYet s = λ u live. live
KeepsOpen-read t into came.End s = λ u live. live
KeepsOpen-read t into came.Failed s = λ u live. live
KeepsOpen-read t into came.Memory s = λ u live. live

StaysEnded-read : (t : ℕ) (into : List ℕ) (answer : Came) (s : Script) → StaysEnded (Ends s.lines) (Ends (read_state t into answer s).lines)
StaysEnded-read t into (came.Got n) s = StaysEnded-skipped s.lines t n
StaysEnded-read t into came.NotYet s = λ u ends. ends
StaysEnded-read t into came.End s = λ u ends. ends
StaysEnded-read t into came.Failed s = λ u ends. ends
StaysEnded-read t into came.Memory s = λ u ends. ends

numbers-read : (t : ℕ) (into : List ℕ) (answer : Came) (s : Script) → length s.lines ≤ length (read_state t into answer s).lines
numbers-read t into (came.Got n) s = omega (arith, length-set s.lines t (skipped n (line_at s.lines t)))
numbers-read t into came.NotYet s = omega arith
numbers-read t into came.End s = omega arith
numbers-read t into came.Failed s = omega arith
numbers-read t into came.Memory s = omega arith

ArrivesBut-read : (t : ℕ) (into : List ℕ) (answer : Came) (s : Script) → ArrivesBut t (IsLive s.lines) (unread s.lines) (unread (read_state t into answer s).lines)
ArrivesBut-read t into (came.Got n) s = ArrivesBut-set s.lines t (skipped n (line_at s.lines t))
ArrivesBut-read t into came.NotYet s = λ u other. Arrives-same s.lines u
ArrivesBut-read t into came.End s = λ u other. Arrives-same s.lines u
ArrivesBut-read t into came.Failed s = λ u other. Arrives-same s.lines u
ArrivesBut-read t into came.Memory s = λ u other. Arrives-same s.lines u

-- The same as one fact.
pub Keeps-dial : (address : List ℕ) (answer : Dialed) (s : Script) → ScriptKeeps all s (dial_state address answer s)
Keeps-dial address answer s = record {
  opens = KeepsOpen-dial address answer s;
  numbers = numbers-dial address answer s;
  arrives = λ _. Arrives-dial address answer s;
  stays_ended = λ _. StaysEnded-dial address answer s;
}

pub Keeps-read : (t : ℕ) (into : List ℕ) (answer : Came) (s : Script) → ScriptKeeps (all_but_inbox_of t) s (read_state t into answer s)
Keeps-read t into answer s = record {
  opens = KeepsOpen-read t into answer s;
  numbers = numbers-read t into answer s;
  arrives = λ _. ArrivesBut-read t into answer s;
  stays_ended = λ _. StaysEnded-read t into answer s;
}

pub Keeps-shut : (t : ℕ) (s z : Script) → z.lines ≡ set s.lines t (shut (line_at s.lines t)) → ScriptKeeps (all_but t) s z
Keeps-shut t s z is = record {
  opens = rw is (KeepsOpenBut-set s.lines t (shut (line_at s.lines t)));
  numbers = omega (arith, ap length is, length-set s.lines t (shut (line_at s.lines t)));
  arrives = λ _. rw is (ArrivesBut-set s.lines t (shut (line_at s.lines t)));
  stays_ended = λ _. rw is (StaysEnded-shut s.lines t);
}

-- A read's events stand behind those that were.
pub Adds-read : (t : ℕ) (into : List ℕ) (answer : Came) (s : Script) → Adds (read_events t into answer) s.events (read_state t into answer s).events
Adds-read t into (came.Got n) s = Adds-one s.events (event.Came t (take n into)) refl
Adds-read t into came.NotYet s = Adds-one s.events (event.Dry t) refl
Adds-read t into came.End s = Adds-one s.events (event.Ended t) refl
Adds-read t into came.Failed s = Adds-one s.events (event.Fault t) refl
Adds-read t into came.Memory s = Adds-none s.events

pub ReadsInbox-given : (t : ℕ) (bytes into : List ℕ) (answer : Came) (s : Script) → t < length s.lines → bytes ≡ take (length bytes) (line_at s.lines t).left
    → IsGiven bytes into answer
    → ReadsInbox (unread s.lines t) (unread (read_state t into answer s).lines t) (Ends (read_state t into answer s).lines t) into answer
ReadsInbox-given t bytes into (came.Got n) s there front given =
    IsPrefixOf-from_eq (unread s.lines t) (take n into ++ unread (read_state t into (came.Got n) s).lines t)
    (rw (unread-skipped s.lines t n there, given.1) (unfold unread in
    sym (ap (λ l. l ++ drop n (line_at s.lines t).left) (front ∙ ap (λ k. take k (line_at s.lines t).left) (sym given.0)) ∙ take-append-drop n (line_at s.lines t).left)))
ReadsInbox-given t bytes into came.NotYet s there front given = absurd given
ReadsInbox-given t bytes into came.End s there front given = absurd given
ReadsInbox-given t bytes into came.Failed s there front given = absurd given
ReadsInbox-given t bytes into came.Memory s there front given = IsPrefixOf-same (unread s.lines t)

-- How much a read hands out.
pub length-front : (room : ℕ) (line : Line) → length (take (piece_size room line) line.left) ≡ piece_size room line
length-front room line = length-take-le (piece_size room line) line.left (omega arith)

pub front-nil : (room : ℕ) (line : Line) → 0 < room → length (take (piece_size room line) line.left) ≡ 0 → line.left ≡ []
front-nil room line some none = nil_from_length line.left (omega (arith, length-front room line))

pub take-length-take : (k : ℕ) (xs : List ℕ) → take k xs ≡ take (length (take k xs)) xs
take-length-take k xs = rw length-take (sym (take_min k xs))

-- A line that was read by its number.
pub line_at-read : (lines inside : List Line) (t : ℕ) (line : Line) → inside ≡ lines → IsLive lines t → line ≡ get_or inside t line → line ≡ line_at lines t
line_at-read lines inside t line same live read = get_or_read lines t line (IsLive-below lines t live) (rw same at read) gone
