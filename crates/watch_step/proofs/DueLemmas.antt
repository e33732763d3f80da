-- When a check is due, read off the entries.
use Rattle.std.specs.Prelude.{◌≡◌, ℕ, Bool, List, [], ◌∷◌, ◌++◌, Option, None, Some}
use Rattle.std.proofs.Common.{refl, ap, ◌∙◌, subst}
use Rattle.entry_judge.specs.declared.timed.Timed.{Timed}
use Rattle.entry_judge.specs.Judge.{Legal, state_after}
use Rattle.entry_judge.specs.Groups.{IsTrail, Stands, next_place, nothing_owed, place_behind}
use Rattle.entry_judge.specs.GroupLaws.{IsTrail-rest}
use Rattle.entry_judge.specs.LegalLaws.{state_after-append}
use Rattle.watch_step.specs.Checks.{Checks, first_check, next_check}
use Rattle.watch_step.specs.Entries.{CheckEntry, Began, Ended, Asked, checks_judge}
use Rattle.watch_step.specs.Laws.{EndsNone, NoneEnds, IsHistory, asks_before, checks_behind, least_due}

-- checks of which one may run
abbrev checks : ℕ → Option ℕ → Option ℕ → ℕ → Checks
checks beat began ended due = record { beat = beat; due = due; began = began; ended = ended }

-- the least of the asks where no check runs; what was due where one does
abbrev least_by : Option ℕ → Option ℕ → ℕ → List (Timed CheckEntry) → ℕ
least_by None ended due ts = least_due ended due (asks_before ts)
least_by (Some began) ended due ts = due

abbrev Least : ℕ → List (Timed CheckEntry) → Type 0
Least beat ts = (began ended : Option ℕ) (due : ℕ) → IsTrail checks_judge (checks beat began ended due) ts →
    (place_behind checks_judge (checks beat began ended due) ts).state.due ≡ least_by began ended due ts

least-step : (beat moment : ℕ) (e : CheckEntry) (ts : List (Timed CheckEntry)) → Least beat ts → EndsNone e →
    Least beat (record { at = moment; what = e } ∷ ts)
least-step beat moment Began ts h n None ended due l = h (Some moment) ended due l.1
least-step beat moment Began ts h n (Some began) ended due l = h (Some moment) ended due l.1
least-step beat moment Asked ts h n None ended due l = h None ended _ l.1
least-step beat moment Asked ts h n (Some began) ended due l = h (Some began) ended due l.1
least-step beat moment (Ended again) ts h n began ended due l = absurd n

least-all : (beat : ℕ) (ts : List (Timed CheckEntry)) → NoneEnds ts → Least beat ts
least-all beat [] n None ended due l = refl
least-all beat [] n (Some began) ended due l = refl
least-all beat (t ∷ ts) n began ended due l = least-step beat t.at t.what ts (least-all beat ts n.1) n.0 began ended due l

-- from the beginning on, where no check ended
pub due-first : (beat first : ℕ) (ts : List (Timed CheckEntry)) → IsHistory beat first ts → NoneEnds ts →
    (checks_behind beat first ts).due ≡ least_due None first (asks_before ts)
due-first beat first ts l n = least-all beat ts n None None first l

-- behind entries nothing must follow, and the interval is what it was
beat-after : (s : Checks) (moment : ℕ) (e : CheckEntry) → (checks_judge.after s moment e).beat ≡ s.beat
beat-after s moment Began = refl
beat-after s moment (Ended again) = refl
beat-after s moment Asked = refl

place-checks : (s : Checks) (ts : List (Timed CheckEntry)) →
    (q : Checks) × (place_behind checks_judge s ts ≡ nothing_owed q) × (q.beat ≡ s.beat)
place-checks s [] = (s, refl, refl)
place-checks s (t ∷ ts) =
    let later = place-checks (checks_judge.after s t.at t.what) ts in
    (later.0, later.1, later.2 ∙ beat-after s t.at t.what)

-- from the last end on
pub due-later : (beat first moment : ℕ) (again : Bool) (before since : List (Timed CheckEntry)) →
    IsHistory beat first (before ++ record { at = moment; what = Ended again } ∷ since) → NoneEnds since →
    (checks_behind beat first (before ++ record { at = moment; what = Ended again } ∷ since)).due
    ≡ least_due (Some moment) (next_check again beat moment) (asks_before since)
due-later beat first moment again before since l n =
    let e : Timed CheckEntry = record { at = moment; what = Ended again } in
    let s = first_check beat first in
    let ahead = place-checks s before in
    let q = ahead.0 in
    let rest = subst (λ p. Legal (Stands checks_judge) (next_place checks_judge) p (e ∷ since)) ahead.1 (IsTrail-rest checks_judge s before (e ∷ since) l) in
    ap (λ p. p.state.due) (state_after-append (next_place checks_judge) (nothing_owed s) before (e ∷ since))
    ∙ ap (λ p. (state_after (next_place checks_judge) p (e ∷ since)).state.due) ahead.1
    ∙ least-all q.beat since n None (Some moment) (next_check again q.beat moment) rest.1
    ∙ ap (λ b. least_due (Some moment) (next_check again b moment) (asks_before since)) ahead.2
