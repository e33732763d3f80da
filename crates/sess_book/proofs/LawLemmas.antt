-- What every history of sessions keeps.
use Rattle.std.proofs.Common.{◌≡◌, ◌≢◌, ℕ, zero, suc, ◌+◌, ◌<◌, ◌≤◌, Bool, true, false, List, [], ◌∷◌, ◌++◌, length, take, drop, Some, refl, sym, ap, ◌∙◌, subst, arith, ◌⊎◌, inl, inr}
use Rattle.std.specs.Prelude.{ℤ, ◌+ℤ◌, pos, slice_get, slice_set, ◌||◌}
use Rattle.std.specs.Ordering.{is_eq}
use Rattle.std.specs.List.{list_any}
use Rattle.std.proofs.lemmas.Bool.{eqb-true, eq-eqb}
use Rattle.std.proofs.lemmas.Bool.Decides.{eqb_tells}
use Rattle.std.proofs.lemmas.List.{take-append-drop}
use Rattle.std.proofs.lemmas.Map.Text.{is_eq-slice_cmp}
use Rattle.std.proofs.lemmas.Option.{slice_get_within}
use Rattle.std.proofs.lemmas.Slice.Eq.{bytes_eq-Decides}
use Rattle.bson_doc.specs.declared.ids.Lsid.{Lsid}
use Rattle.entry_judge.specs.declared.timed.Timed.{Timed}
use Rattle.entry_judge.specs.Judge.{Legal, state_after}
use Rattle.entry_judge.specs.Groups.{Stands, IsTrail, Place, next_place, nothing_owed, place_behind}
use Rattle.entry_judge.specs.GroupLaws.{IsTrail-at, IsTrail-front}
use Rattle.entry_judge.specs.InvariantLaws.{Keeps, Keeps-legal, KeepsOwed, KeepsOwed-legal}
use Rattle.sess_book.specs.declared.session.Session.{Session}
use Rattle.sess_book.specs.declared.session.Kept.{Kept}
use Rattle.sess_book.specs.declared.session.Holding.TheVariants as holding
use Rattle.sess_book.specs.Entries.{SessEntry, Made, Reused, Drew, Returned, MayStand, after, sessions_judge, with_session}
use Rattle.sess_book.specs.Ids.{is_same_id}
use Rattle.sess_book.specs.Inside.{IsSound}
use Rattle.sess_book.specs.Laws.{IdsDiffer, IsHeldByNobody, IsHistory, leases}
use Rattle.sess_book.specs.Sessions.{Sessions, is_used, no_sessions}
use Rattle.sess_book.proofs.ListLemmas.{slice_get-set_same, slice_get-set_other, slice_get-push}
use Rattle.sess_book.proofs.SoundLemmas.{made-sound, reused-sound, drew-sound, returned-sound, is_kept-left}
use Rattle.sess_book.proofs.BookLemmas.{new_session, with_session-there}

-- ---- Ids

is_same_id-same : (a b : Lsid) → a ≡ b → is_same_id a b ≡ true
is_same_id-same a b e = is_eq-slice_cmp a.0 b.0 ∙ (bytes_eq-Decides a.0 b.0).1 (ap (λ l. l.0) e)

-- an id that was not used is that of no session
unused-at : (id : Lsid) (made : List Session) → is_used id made ≡ false → (i : ℕ) (x : Session) → slice_get made i ≡ Some x → x.lsid ≡ id → ⊥
unused-at id [] unused i x at same = absurd (cc)
unused-at id (z ∷ zs) unused zero x at same =
    let one : z ≡ x = cc in
    let yes = is_same_id-same z.lsid id (ap (λ w. w.lsid) one ∙ same) in
    absurd (let b : (true || is_used id zs) ≡ false = subst (λ t. (t || is_used id zs) ≡ false) yes unused in cc)
unused-at id (z ∷ zs) unused (suc i) x at same = unused-at id zs (rest (is_same_id z.lsid id) (is_used id zs) unused) i x at same where
  rest : (a b : Bool) → (a || b) ≡ false → b ≡ false
  rest true b e = absurd (cc)
  rest false b e = e

ids-push : (made : List Session) (id : Lsid) → IdsDiffer made → is_used id made ≡ false → IdsDiffer (made ++ new_session id ∷ [])
ids-push made id differ unused i j x y at to same = elim (slice_get-push made (new_session id) i x at) [
  | inl w ↦ elim (slice_get-push made (new_session id) j y to) [
    | inl v ↦ differ i j x y w v same
    | inr v ↦ absurd (unused-at id made unused i x w (same ∙ ap (λ z. z.lsid) (sym v.1)))
  ]
  | inr w ↦ elim (slice_get-push made (new_session id) j y to) [
    | inl v ↦ absurd (unused-at id made unused j y v (sym same ∙ ap (λ z. z.lsid) (sym w.1)))
    | inr v ↦ w.0 ∙ sym v.0
  ]
]

-- each session keeps its id where one changes
lsid-set : (made : List Session) (place : ℕ) (x y : Session) → slice_get made place ≡ Some x → y.lsid ≡ x.lsid →
    (i : ℕ) (z : Session) → slice_get (slice_set made place y) i ≡ Some z → (w : Session) × (slice_get made i ≡ Some w) × (w.lsid ≡ z.lsid)
lsid-set made place x y there same i z at = elim (eqb_tells i place) [
  | inl w ↦
      let here : slice_get (slice_set made place y) i ≡ Some y = subst (λ n. slice_get (slice_set made place y) n ≡ Some y) (sym w.1) (slice_get-set_same made place y x there) in
      let one : y ≡ z = cc in
      (x, subst (λ n. slice_get made n ≡ Some x) (sym w.1) there, sym same ∙ ap (λ v. v.lsid) one)
  | inr w ↦ (z, sym (slice_get-set_other made place i y w.1) ∙ at, refl)
]

ids-set : (made : List Session) (place : ℕ) (x y : Session) → IdsDiffer made → slice_get made place ≡ Some x → y.lsid ≡ x.lsid → IdsDiffer (slice_set made place y)
ids-set made place x y differ there same i j a b at to e =
    let one = lsid-set made place x y there same i a at in
    let other = lsid-set made place x y there same j b to in
    differ i j one.0 other.0 one.1 other.1 (one.2 ∙ e ∙ sym other.2)

-- ---- The invariant of histories

-- what a book keeps, and that ids differ
pub record Good (s : Sessions) : Type 0 where
  pub sound : IsSound s
  pub differ : IdsDiffer s.made

-- sessions with one changed are good where they are with the change written out
good-there : (s : Sessions) (place : ℕ) (x : Session) (f : Session → Session) (kept : List Kept) (last : ℕ) → slice_get s.made place ≡ Some x →
    Good (record { made = slice_set s.made place (f x); kept = kept; last = last }) → Good (record { made = with_session s.made place f; kept = kept; last = last })
good-there s place x f kept last there good =
    subst (λ m. Good (record { made = m; kept = kept; last = last })) (sym (with_session-there s.made place x f there)) good

good-each : (s : Sessions) (moment : ℕ) (e : SessEntry) → Good s → MayStand s moment e → Good (after s moment e)
good-each s moment (Made place lsid minutes) good stands =
    record { sound = made-sound s moment lsid good.sound; differ = ids-push s.made lsid good.differ stands.2 }
good-each s moment (Reused place minutes) good stands =
    let k = stands.1.0 in
    let free = good.sound.free _ k stands.1.1 in
    let x = free.0 in
    let y : Session = record x { holding = holding.Leased } in
    let same = stands.1.2 in
    let there : slice_get s.made place ≡ Some x = subst (λ n. slice_get s.made n ≡ Some x) same free.1 in
    good-there s place x (λ z. record z { holding = holding.Leased }) _ moment there
    (record {
      sound = subst (λ n. IsSound (record { made = slice_set s.made n y; kept = _; last = moment })) same
          (reused-sound s moment k x good.sound stands.0 stands.1.1 free.1 free.2 free.3);
      differ = ids-set s.made place x y good.differ there refl;
    })
good-each s moment (Drew place number) good stands =
    let x = stands.0 in
    good-there s place x (λ z. record z { number = number; holding = holding.Drawn }) s.kept s.last stands.1
    (record {
      sound = drew-sound s place x number good.sound stands.1 stands.2;
      differ = ids-set s.made place x (record x { number = number; holding = holding.Drawn }) good.differ stands.1 refl;
    })
good-each s moment (Returned place dirty kept) good stands =
    let x = stands.1.0 in
    let y : Session = record x { holding = holding.Nobody } in
    good-there s place x (λ z. record z { holding = holding.Nobody }) _ moment stands.1.1
    (record {
      sound = returned-sound s place x moment kept good.sound stands.1.1 stands.1.2 stands.0 (λ e. is_kept-left dirty x.number (sym stands.1.3 ∙ e));
      differ = ids-set s.made place x y good.differ stands.1.1 refl;
    })

pub good-keeps : Keeps sessions_judge Good
good-keeps = record { each = good-each }

pub good-first : Good no_sessions
good-first = record {
  sound = record {
    free = λ i k at. absurd (cc);
    once = λ i j a b at to same. absurd (cc);
    order = λ i j a b at to below. absurd (cc);
    past = λ i k at. absurd (cc);
    numbers = λ i x at leased. absurd (cc);
    apart = omega arith;
  };
  differ = λ i j x y at to same. absurd (cc);
}

pub good-history : (ts : List (Timed SessEntry)) → IsHistory ts → Good (place_behind sessions_judge no_sessions ts).state
good-history ts l = Keeps-legal sessions_judge Good good-keeps no_sessions [] ts good-first l

-- ---- Nothing is owed

pub owes_nothing : KeepsOwed sessions_judge Good (λ s owed. owed ≡ [])
owes_nothing = record { keeps = good-keeps; behind = λ s moment e good stands. refl; rest = λ s d ds e. absurd (cc) }

-- at each place of a history the entry may stand
pub stands-at : (ts : List (Timed SessEntry)) → IsHistory ts → (k : ℕ) (t : Timed SessEntry) → slice_get ts k ≡ Some t →
    MayStand (place_behind sessions_judge no_sessions (take k ts)).state t.at t.what
stands-at ts l k t at =
    let front = IsTrail-front sessions_judge no_sessions (take k ts) (drop k ts) (subst (λ xs. IsHistory xs) (sym (take-append-drop k ts)) l) in
    let none = KeepsOwed-legal sessions_judge Good (λ s owed. owed ≡ []) owes_nothing no_sessions [] (take k ts) good-first refl front in
    let p = place_behind sessions_judge no_sessions (take k ts) in
    subst (λ owed. Stands sessions_judge (record { state = p.state; owed = owed }) t) none (IsTrail-at sessions_judge no_sessions ts l k t at)

-- ---- One holder

pub leases-free : (s : Sessions) (moment : ℕ) (e : SessEntry) → Good s → MayStand s moment e → (place : ℕ) → leases place e ≡ true → IsHeldByNobody s.made place
leases-free s moment (Made p lsid minutes) good stands place at x there =
    let same = eqb-true p place at in
    let new = stands.1 in
    let within = slice_get_within s.made place x there in
    absurd (omega (arith, same, new, within))
leases-free s moment (Reused p minutes) good stands place at x there =
    let k = stands.1.0 in
    let free = good.sound.free _ k stands.1.1 in
    let same = stands.1.2 ∙ eqb-true p place at in
    let here : slice_get s.made place ≡ Some free.0 = subst (λ n. slice_get s.made n ≡ Some free.0) same free.1 in
    let one : free.0 ≡ x = cc in
    subst (λ z. z.holding ≡ holding.Nobody) one free.2
leases-free s moment (Drew p number) good stands place at x there = absurd (cc)
leases-free s moment (Returned p dirty kept) good stands place at x there = absurd (cc)
