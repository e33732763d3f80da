-- The lanes of a trail to which entries are appended.
use Rattle.std.proofs.Common.{◌≡◌, inl, inr, ℕ, zero, suc, ◌+◌, ◌<◌, ◌⊎◌, Bool, true, false, List, [], ◌∷◌, ◌++◌, Some, length, refl, sym, ap, ◌∙◌, subst, arith, All}
use Rattle.std.specs.Prelude.{slice_get}
use Rattle.std.proofs.lemmas.List.{map-append}
use Rattle.std.proofs.lemmas.List.Elements.{All-cons, All-head, All-nil, All-tail}
use Rattle.cmd_build.specs.declared.command.Command.{Command}
use Rattle.entry_judge.specs.Groups.{entries_of}
use Rattle.entry_judge.specs.declared.timed.Timed.{Timed}
use Rattle.desk_trail.specs.Attempts.{AtCommand}
use Rattle.desk_trail.specs.Clients.{Client}
use Rattle.desk_trail.specs.Facts.{Fact}
use Rattle.desk_trail.specs.Facts as fact
use Rattle.desk_trail.specs.Lanes.{EntryAt, RunInLanes, answers, is_of_command}
use Rattle.desk_trail.specs.Legal.{point_behind}
use Rattle.desk_trail.specs.States.{CommandState}
use Rattle.trail_laws.specs.Answers.{IsUnanswered}
use Rattle.trail_laws.specs.Answers as law
use Rattle.desk_core.specs.Appends.{NamesNone, NamesOnly, Tells}
use Rattle.desk_core.specs.Nexts.{IsNextIn}
use Rattle.desk_share.specs.Shared.{AreInLanes}

-- ---- Lists

slice_get-front : {A : Type 0} (xs ys : List A) (n : ℕ) (x : A) → slice_get xs n ≡ Some x → slice_get (xs ++ ys) n ≡ Some x
slice_get-front [] ys n x e = absurd (let never : ⊥ = cc in never)
slice_get-front (y ∷ xs) ys zero x e = e
slice_get-front (y ∷ xs) ys (suc n) x e = slice_get-front xs ys n x e

-- What stands in one list and then another stands in the first or in the second.
slice_get-either : {A : Type 0} (xs ys : List A) (n : ℕ) (x : A) → slice_get (xs ++ ys) n ≡ Some x →
    ((n < length xs) × (slice_get xs n ≡ Some x)) ⊎ ((k : ℕ) × (n ≡ length xs + k) × (slice_get ys k ≡ Some x))
slice_get-either [] ys n x e = inr (n, (let same : n ≡ 0 + n = omega arith in same), e)
slice_get-either (y ∷ xs) ys zero x e = inl (let some : zero < length (y ∷ xs) = omega arith in some, e)
slice_get-either (y ∷ xs) ys (suc n) x e = elim (slice_get-either xs ys n x e) [
  | inl w ↦ inl (let more : suc n < length (y ∷ xs) = omega (arith, w.0) in more, w.1)
  | inr w ↦ inr (w.0, (let same : suc n ≡ length (y ∷ xs) + w.0 = omega (arith, w.1) in same), w.2)
]

pub entry-so : (P : Fact → Type 0) (ts : List (Timed Fact)) (n : ℕ) (f : Fact) → All (λ (t : Timed Fact). P t.what) ts → slice_get (entries_of ts) n ≡ Some f → P f
entry-so P [] n f a e = absurd (let never : ⊥ = cc in never)
entry-so P (t ∷ ts) zero f a e = let same : t.what ≡ f = cc in subst P same (All-head (λ (u : Timed Fact). P u.what) t ts a)
entry-so P (t ∷ ts) (suc n) f a e = entry-so P ts n f (All-tail (λ (u : Timed Fact). P u.what) t ts a) e

-- ---- Answers

same-answers : (k : ℕ) (f : Fact) → law.answers k f ≡ answers k f
same-answers k (fact.Named host address) = refl
same-answers k (fact.Dropped host) = refl
same-answers k (fact.Offered place event taken) = refl
same-answers k (fact.PoolReady host) = refl
same-answers k (fact.PoolClear host) = refl
same-answers k (fact.PoolShut host) = refl
same-answers k (fact.CheckBegan host stream) = refl
same-answers k (fact.CheckDry host) = refl
same-answers k (fact.CheckEnded host how) = refl
same-answers k (fact.Looked op a b kept picked) = refl
same-answers k (fact.Entered op host ticket) = refl
same-answers k (fact.Lent op host conn) = refl
same-answers k (fact.Dialled op host conn stream) = refl
same-answers k (fact.Settled op host conn stale) = refl
same-answers k (fact.NotLent op host why) = refl
same-answers k (fact.CheckedIn op host conn errored) = refl
same-answers k (fact.ConnShut host conn reason) = refl
same-answers k (fact.Leased op place lsid fresh) = refl
same-answers k (fact.Drew op number) = refl
same-answers k (fact.Returned op dirty kept) = refl
same-answers k (fact.Asked place request) = refl
same-answers k (fact.Ended op end) = refl
same-answers k (fact.Time stamp) = refl
same-answers k (fact.Finished op outcome) = refl

-- A command was answered at a place of the entries.
abbrev pub IsAnsweredIn : ℕ → List Fact → Type 0
IsAnsweredIn k fs = (n : ℕ) × (n < length fs) × EntryAt fs n (answers k)

answered-or-not : (k : ℕ) (ts : List (Timed Fact)) → IsUnanswered k ts ⊎ IsAnsweredIn k (entries_of ts)
answered-or-not k [] = inl (All-nil (λ (t : Timed Fact). law.answers k t.what ≡ false))
answered-or-not k (t ∷ ts) = by (answers k t.what) refl (answered-or-not k ts)
  where
    Not : Timed Fact → Type 0
    Not u = law.answers k u.what ≡ false

    by : (b : Bool) → answers k t.what ≡ b → IsUnanswered k ts ⊎ IsAnsweredIn k (entries_of ts) → IsUnanswered k (t ∷ ts) ⊎ IsAnsweredIn k (entries_of (t ∷ ts))
    by true e rest = inr (zero, (let some : zero < length (entries_of (t ∷ ts)) = omega arith in some), record { fact = t.what; there = refl; so = e })
    by false e (inl none) = inl (All-cons Not t ts (same-answers k t.what ∙ e) none)
    by false e (inr (n, within, at)) = inr (suc n, (let more : suc n < length (entries_of (t ∷ ts)) = omega (arith, within) in more), record { fact = at.fact; there = at.there; so = at.so })

-- A command that is answered nowhere goes on.
abbrev pub GoOn : Type 0
GoOn = (client : Client) (ts : List (Timed Fact)) (op : ℕ) (command : Command) → slice_get client.commands op ≡ Some command → IsUnanswered op ts →
    AtCommand (point_behind client ts).state op (λ c. c.is_finished ≡ false)

-- So one that is finished was answered.
answered-by-now : GoOn → (client : Client) (ts : List (Timed Fact)) (k : ℕ) (c : Command) → slice_get client.commands k ≡ Some c →
    ((x : CommandState) → slice_get (point_behind client ts).state.commands k ≡ Some x → x.is_finished ≡ true) → IsAnsweredIn k (entries_of ts)
answered-by-now law client ts k c given done = elim (answered-or-not k ts) [
  | inl w ↦ absurd (never (law client ts k c given w))
  | inr w ↦ w
]
  where
    never : AtCommand (point_behind client ts).state k (λ x. x.is_finished ≡ false) → ⊥
    never (x, there, goes) = let finished = done x there in let contra : ⊥ = cc in contra

-- ---- Lanes

-- Entries come behind others: those of a command come behind the answers of the commands ahead of it in its lane.
abbrev ComeInLanes : List Command → (fs gs : List Fact) → Type 0
ComeInLanes commands fs gs =
    (earlier later place : ℕ) (c d : Command) → slice_get commands earlier ≡ Some c → slice_get commands later ≡ Some d → earlier < later → c.lane ≡ d.lane →
    EntryAt gs place (is_of_command later) → IsAnsweredIn earlier fs

lanes-append : (commands : List Command) (fs gs : List Fact) → RunInLanes commands fs → ComeInLanes commands fs gs → RunInLanes commands (fs ++ gs)
lanes-append commands fs gs runs come = record { each = each }
  where
    front : (k place : ℕ) → place < length fs → (n : ℕ) × (n < place) × EntryAt fs n (answers k) → (n : ℕ) × (n < place) × EntryAt (fs ++ gs) n (answers k)
    front k place lt (n, before, at) = (n, before, record { fact = at.fact; there = slice_get-front fs gs n at.fact at.there; so = at.so })

    behind : (k place : ℕ) (m : ℕ) → place ≡ length fs + m → IsAnsweredIn k fs → (n : ℕ) × (n < place) × EntryAt (fs ++ gs) n (answers k)
    behind k place m same (n, within, at) =
        (n, (let less : n < place = omega (arith, same, within) in less), record { fact = at.fact; there = slice_get-front fs gs n at.fact at.there; so = at.so })

    each : (earlier later place : ℕ) (c d : Command) → slice_get commands earlier ≡ Some c → slice_get commands later ≡ Some d →
        earlier < later → c.lane ≡ d.lane → EntryAt (fs ++ gs) place (is_of_command later) → (n : ℕ) × (n < place) × EntryAt (fs ++ gs) n (answers earlier)
    each earlier later place c d given_c given_d before lane at = elim (slice_get-either fs gs place at.fact at.there) [
      | inl w ↦ front earlier place w.0 (runs.each earlier later place c d given_c given_d before lane (record { fact = at.fact; there = w.1; so = at.so }))
      | inr w ↦ behind earlier place w.0 w.1 (come earlier later w.0 c d given_c given_d before lane (record { fact = at.fact; there = w.2; so = at.so }))
    ]

lanes-by : (client : Client) (old new more : List (Timed Fact)) → new ≡ old ++ more → AreInLanes client old → ComeInLanes client.commands (entries_of old) (entries_of more) →
    AreInLanes client new
lanes-by client old new more facts runs come =
    subst (RunInLanes client.commands) (sym (ap entries_of facts ∙ map-append (λ (t : Timed Fact). t.what) old more)) (lanes-append client.commands (entries_of old) (entries_of more) runs come)

-- By entries of no command.
pub lanes-aside : (client : Client) (old new : List (Timed Fact)) → Tells NamesNone old new → AreInLanes client old → AreInLanes client new
lanes-aside client old new tells runs = lanes-by client old new tells.more tells.facts runs come
  where
    come : ComeInLanes client.commands (entries_of old) (entries_of tells.more)
    come earlier later place c d given_c given_d before lane at =
        let none = entry-so NamesNone tells.more place at.fact tells.each at.there in
        absurd (let never : ⊥ = (let yes = at.so in let no = none later in cc) in never)

-- By entries of no command but the one that comes next in its lane.
pub lanes-op : GoOn → (client : Client) (lane op : ℕ) (old new : List (Timed Fact)) → IsNextIn client (point_behind client old).state lane (Some op) →
    Tells (NamesOnly op) old new → AreInLanes client old → AreInLanes client new
lanes-op law client lane op old new next tells runs = lanes-by client old new tells.more tells.facts runs come
  where
    ahead : (earlier later : ℕ) (c d : Command) → slice_get client.commands earlier ≡ Some c → slice_get client.commands later ≡ Some d → earlier < later → c.lane ≡ d.lane →
        later ≡ op → IsAnsweredIn earlier (entries_of old)
    ahead earlier later c d given_c given_d before lane_same same =
        answered-by-now law client old earlier c given_c (λ (x : CommandState) (there : slice_get (point_behind client old).state.commands earlier ≡ Some x).
        next.ahead earlier (record { command = c; given = given_c; lane_is = lane_is; running = x; there = there }) (subst (λ (n : ℕ). earlier < n) same before))
      where
        given_op : slice_get client.commands op ≡ Some d
        given_op = subst (λ (n : ℕ). slice_get client.commands n ≡ Some d) same given_d

        lane_is : c.lane ≡ lane
        lane_is = lane_same ∙ (let is_d : d ≡ next.of_lane.command = (let a = given_op in let b = next.of_lane.given in cc) in ap (λ (x : Command). x.lane) is_d) ∙ next.of_lane.lane_is

    come : ComeInLanes client.commands (entries_of old) (entries_of tells.more)
    come earlier later place c d given_c given_d before lane_same at =
        let only = entry-so (NamesOnly op) tells.more place at.fact tells.each at.there in
        ahead earlier later c d given_c given_d before lane_same (only later at.so)
