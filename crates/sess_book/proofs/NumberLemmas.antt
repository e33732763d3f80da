-- The numbers that are drawn from a session count its draws.
use Rattle.std.proofs.Common.{◌≡◌, ◌≢◌, ℕ, zero, suc, ◌+◌, ◌<◌, ◌≤◌, Bool, true, false, List, [], ◌∷◌, ◌++◌, length, take, drop, Some, refl, sym, ap, ◌∙◌, subst, arith, ◌⊎◌, inl, inr}
use Rattle.std.specs.Prelude.{ℤ, ◌+ℤ◌, pos, slice_get, slice_set, if◌then◌else◌}
use Rattle.std.proofs.lemmas.Bool.{eqb-true, eq-eqb}
use Rattle.std.proofs.lemmas.Bool.Decides.{eqb_tells}
use Rattle.std.proofs.lemmas.List.{append-nil, length-append, take-append-drop}
use Rattle.std.proofs.lemmas.Option.{slice_get_within}
use Rattle.entry_judge.specs.declared.timed.Timed.{Timed}
use Rattle.entry_judge.specs.Judge.{state_after}
use Rattle.entry_judge.specs.Groups.{entries_of, place_behind}
use Rattle.entry_judge.specs.GroupLaws.{IsTrail-front}
use Rattle.entry_judge.specs.InvariantLaws.{Keeps, KeepsOwed-legal, Reads, Reads-trail}
use Rattle.sess_book.specs.declared.session.Session.{Session}
use Rattle.sess_book.specs.declared.session.Holding.TheVariants as holding
use Rattle.sess_book.specs.Entries.{SessEntry, Made, Reused, Drew, Returned, MayStand, after, sessions_judge, with_session}
use Rattle.sess_book.specs.Laws.{IsHistory, draws, is_draw}
use Rattle.sess_book.specs.Sessions.{Sessions, no_sessions}
use Rattle.sess_book.proofs.ListLemmas.{length-set, slice_get-set_same, slice_get-set_other, slice_get-push}
use Rattle.sess_book.proofs.BookLemmas.{new_session, with_session-there}
use Rattle.sess_book.proofs.LawLemmas.{Good, good-keeps, good-first, owes_nothing, stands-at}

-- the session at that place, if it was made, has drawn so many numbers; if not, there were no draws
pub HasDrawn : ℕ → List Session → ℕ → Type 0
HasDrawn place made n = ((x : Session) → slice_get made place ≡ Some x → x.number ≡ pos n) × (length made ≤ place → n ≡ 0)

-- one more draw, where the entry is one of that session
abbrev pub counted : ℕ → ℕ → SessEntry → ℕ
counted place n e = n + (if is_draw place e then 1 else 0)

state_after-counted : (place n : ℕ) (es : List SessEntry) → state_after (counted place) n es ≡ n + draws place es
state_after-counted place n [] = omega arith
state_after-counted place n (e ∷ es) = let rest = state_after-counted place (counted place n e) es in omega (arith, rest)

zero_plus : (n : ℕ) → 0 + n ≡ n
zero_plus n = omega arith

zero_more : (n : ℕ) → n + 0 ≡ n
zero_more n = omega arith

-- another session changes, or this one and not its number
drawn-set : (place : ℕ) (made : List Session) (n p : ℕ) (x y : Session) → slice_get made p ≡ Some x → y.number ≡ x.number → HasDrawn place made n →
    HasDrawn place (slice_set made p y) n
unfolding HasDrawn
drawn-set place made n p x y there same h = (
  λ z at. elim (eqb_tells place p) [
    | inl w ↦
        let here : slice_get (slice_set made p y) place ≡ Some y = subst (λ m. slice_get (slice_set made p y) m ≡ Some y) (sym w.1) (slice_get-set_same made p y x there) in
        let one : y ≡ z = cc in
        ap (λ v. v.number) (sym one) ∙ same ∙ h.0 x (subst (λ m. slice_get made m ≡ Some x) (sym w.1) there)
    | inr w ↦ h.0 z (sym (slice_get-set_other made p place y w.1) ∙ at)
  ],
  λ l. h.1 (let size = length-set made p y in omega (arith, size, l)),
)

drawn-other : (place : ℕ) (made : List Session) (n p : ℕ) (y : Session) → (place ≡ p → ⊥) → HasDrawn place made n → HasDrawn place (slice_set made p y) n
unfolding HasDrawn
drawn-other place made n p y apart h =
    (λ z at. h.0 z (sym (slice_get-set_other made p place y apart) ∙ at), λ l. h.1 (let size = length-set made p y in omega (arith, size, l)))

-- this session draws
drawn-next : (place : ℕ) (made : List Session) (n : ℕ) (x y : Session) → slice_get made place ≡ Some x → y.number ≡ x.number +ℤ pos 1 → HasDrawn place made n →
    HasDrawn place (slice_set made place y) (n + 1)
unfolding HasDrawn
drawn-next place made n x y there next h = (
  λ z at.
      let here = slice_get-set_same made place y x there in
      let one : y ≡ z = cc in
      ap (λ v. v.number) (sym one) ∙ next ∙ ap (λ m. m +ℤ pos 1) (h.0 x there),
  λ l. let within = slice_get_within made place x there in let size = length-set made place y in absurd (omega (arith, within, size, l)),
)

-- a change that keeps the number
changed : (place : ℕ) (made : List Session) (n p : ℕ) (x : Session) (f : Session → Session) → slice_get made p ≡ Some x → (f x).number ≡ x.number → HasDrawn place made n →
    HasDrawn place (with_session made p f) (n + 0)
changed place made n p x f there same h =
    subst (λ m. HasDrawn place (with_session made p f) m) (sym (zero_more n))
    (subst (λ m. HasDrawn place m n) (sym (with_session-there made p x f there)) (drawn-set place made n p x (f x) there same h))

pub drawn-each : (place : ℕ) (s : Sessions) (moment : ℕ) (e : SessEntry) (n : ℕ) → HasDrawn place s.made n → MayStand s moment e → Good s →
    HasDrawn place (after s moment e).made (counted place n e)
unfolding HasDrawn
drawn-each place s moment (Made p lsid minutes) n h stands good = (
  λ x at. elim (slice_get-push s.made (new_session lsid) place x at) [
    | inl w ↦ h.0 x w ∙ ap pos (omega arith)
    | inr w ↦
        let none = h.1 (let at_end = w.0 in omega (arith, at_end)) in
        ap (λ v. v.number) (sym w.1) ∙ ap pos (omega (arith, none))
  ],
  λ l. let none = h.1 (let size = length-append s.made (new_session lsid ∷ []) in omega (arith, size, l)) in omega (arith, none),
)
drawn-each place s moment (Reused p minutes) n h stands good =
    let k = stands.1.0 in
    let free = good.sound.free _ k stands.1.1 in
    let x = free.0 in
    let there : slice_get s.made p ≡ Some x = subst (λ m. slice_get s.made m ≡ Some x) stands.1.2 free.1 in
    changed place s.made n p x (λ z. record z { holding = holding.Leased }) there refl h
drawn-each place s moment (Drew p number) n h stands good =
    let x = stands.0 in
    let f : Session → Session = λ z. record z { number = number; holding = holding.Drawn } in
    subst (λ m. HasDrawn place m (counted place n (Drew p number))) (sym (with_session-there s.made p x f stands.1))
    (elim (eqb_tells p place) [
      | inl w ↦
          let made = drawn-next place s.made n x (f x) (subst (λ m. slice_get s.made m ≡ Some x) w.1 stands.1) stands.3 h in
          subst (λ m. HasDrawn place (slice_set s.made m (f x)) (n + (if is_draw place (Drew p number) then 1 else 0))) (sym w.1)
          (subst (λ b. HasDrawn place (slice_set s.made place (f x)) (n + (if b then 1 else 0))) (sym w.0) made)
      | inr w ↦
          subst (λ b. HasDrawn place (slice_set s.made p (f x)) (n + (if b then 1 else 0))) (sym w.0)
          (subst (λ m. HasDrawn place (slice_set s.made p (f x)) m) (sym (zero_more n)) (drawn-other place s.made n p (f x) (λ e. w.1 (sym e)) h))
    ])
drawn-each place s moment (Returned p dirty kept) n h stands good =
    changed place s.made n p stands.1.0 (λ z. record z { holding = holding.Nobody }) stands.1.1 refl h

numbers : (place : ℕ) → Reads sessions_judge Good (λ s n. HasDrawn place s.made n) (counted place)
numbers place = record { keeps = good-keeps; each = λ s moment e n good h stands. drawn-each place s moment e n h stands good }

-- none was drawn at first
none_drawn : (place : ℕ) → HasDrawn place [] 0
unfolding HasDrawn
none_drawn place = (λ x at. absurd (cc), λ l. refl)

-- behind a history, a session's number is how many draws there were
pub drawn-history : (ts : List (Timed SessEntry)) → IsHistory ts → (place : ℕ) →
    HasDrawn place (place_behind sessions_judge no_sessions ts).state.made (draws place (entries_of ts))
drawn-history ts l place =
    let p = place_behind sessions_judge no_sessions ts in
    let none = KeepsOwed-legal sessions_judge Good (λ s owed. owed ≡ []) owes_nothing no_sessions [] ts good-first refl l in
    let all = Reads-trail sessions_judge Good (λ s n. HasDrawn place s.made n) (counted place) (numbers place) no_sessions ts 0 good-first (none_drawn place) l in
    subst (λ n. HasDrawn place p.state.made n)
    (ap (λ owed. state_after (counted place) 0 (entries_of ts ++ owed)) none ∙ ap (state_after (counted place) 0) (append-nil (entries_of ts)) ∙ state_after-counted place 0 (entries_of ts) ∙ zero_plus (draws place (entries_of ts)))
    all

-- what is drawn at a place of a history is one more than that
pub drawn-at : (ts : List (Timed SessEntry)) → IsHistory ts → (k moment place : ℕ) (number : ℤ) →
    slice_get ts k ≡ Some (record { at = moment; what = Drew place number }) → number ≡ pos (draws place (entries_of (take k ts)) + 1)
unfolding HasDrawn
drawn-at ts l k moment place number at =
    let front = IsTrail-front sessions_judge no_sessions (take k ts) (drop k ts) (subst (λ xs. IsHistory xs) (sym (take-append-drop k ts)) l) in
    let stands = stands-at ts l k (record { at = moment; what = Drew place number }) at in
    let n = (drawn-history (take k ts) front place).0 stands.0 stands.1 in
    stands.3 ∙ ap (λ m. m +ℤ pos 1) n
