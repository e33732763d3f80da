-- What a call leaves of a book, by what it leaves of its parts.
use Rattle.std.proofs.Common.{◌≡◌, ◌≢◌, ℕ, zero, suc, ◌+◌, ◌<◌, ◌≤◌, Bool, true, false, cond, List, [], ◌∷◌, ◌++◌, ◌-◌, length, take, Some, refl, sym, ap, ◌∙◌, subst, arith}
use Rattle.std.specs.Prelude.{ℤ, ◌+ℤ◌, pos, All, slice_get, slice_set, ◌||◌}
use Rattle.std.proofs.lemmas.List.Folds.{list_any-append}
use Rattle.bson_doc.specs.declared.ids.Lsid.{Lsid}
use Rattle.entry_judge.specs.Groups.{Goes}
use Rattle.sess_book.specs.declared.session.Session.{Session}
use Rattle.sess_book.specs.declared.session.Kept.{Kept}
use Rattle.sess_book.specs.declared.session.Holding.TheVariants as holding
use Rattle.sess_book.specs.Entries.{Made, Reused, Drew, Returned, kept_again, sessions_judge, with_session, set_at}
use Rattle.sess_book.specs.Ids.{is_same_id}
use Rattle.sess_book.specs.Inside.{IsSound}
use Rattle.sess_book.specs.Sessions.{Sessions, has_minute_left, newest, is_kept, is_used}
use Rattle.sess_book.proofs.ListLemmas.{slice_get-pushed}
use Rattle.sess_book.proofs.SoundLemmas.{none_left, is_out-held, leases_out-there}

-- the session that a lease is made with
abbrev pub new_session : Lsid → Session
new_session lsid = record { lsid = lsid; number = pos 0; holding = holding.Leased }

-- the ids that were used, with one more
pub is_used-push : (id lsid : Lsid) (made : List Session) → is_used id (made ++ new_session lsid ∷ []) ≡ cond (is_same_id lsid id) true (is_used id made)
is_used-push id lsid made = list_any-append (λ s. is_same_id s.lsid id) made (new_session lsid ∷ []) ∙ last_first (is_used id made) (is_same_id lsid id) where
  last_first : (a b : Bool) → (a || (b || false)) ≡ cond b true a
  last_first true true = refl
  last_first true false = refl
  last_first false true = refl
  last_first false false = refl

-- a session is made
pub made-goes : (s t : Sessions) (moment : ℕ) (minutes : ℤ) (lsid : Lsid) → IsSound s → s.last ≤ moment → is_used lsid s.made ≡ false →
    ((k : Kept) → newest s ≡ Some k → has_minute_left minutes moment k ≡ false) →
    t ≡ record { made = s.made ++ new_session lsid ∷ []; kept = []; last = moment } →
    Goes sessions_judge s moment (Made (length s.made) lsid minutes) t
made-goes s t moment minutes lsid sound late unused lacks e =
    record { stands = (late, refl, unused, none_left s minutes moment sound lacks); moves = e }

-- the ids that were used stay where one session changes and keeps its id
pub is_used-set : (id : Lsid) (made : List Session) (place : ℕ) (x y : Session) → slice_get made place ≡ Some x → y.lsid ≡ x.lsid →
    is_used id (slice_set made place y) ≡ is_used id made
is_used-set id [] place x y there same = refl
is_used-set id (z ∷ zs) zero x y there same =
    let one : z ≡ x = cc in
    ap (λ l. is_same_id l id || is_used id zs) (same ∙ sym (ap (λ w. w.lsid) one))
is_used-set id (z ∷ zs) (suc place) x y there same = ap (λ b. is_same_id z.lsid id || b) (is_used-set id zs place x y there same)

-- one session changes as an entry says
pub with_session-there : (made : List Session) (place : ℕ) (x : Session) (f : Session → Session) → slice_get made place ≡ Some x →
    with_session made place f ≡ slice_set made place (f x)
with_session-there made place x f there = ap (λ o. set_at made place o f) there

-- a session that is out finds room among those that are kept
pub room-out : (s : Sessions) → IsSound s → (place : ℕ) (x : Session) → slice_get s.made place ≡ Some x → x.holding ≢ holding.Nobody →
    length s.kept < length s.made
room-out s sound place x there held = omega (arith, is_out-held x.holding held, leases_out-there s.made place x there, sound.apart)

-- a session's holder draws
pub drew-goes : (b s : Sessions) → b ≡ s → (place : ℕ) (x : Session) (number : ℤ) (made : List Session) → slice_get b.made place ≡ Some x →
    x.holding ≡ holding.Leased → number ≡ x.number +ℤ pos 1 → made ≡ slice_set b.made place (record x { number = number; holding = holding.Drawn }) →
    Goes sessions_judge s s.last (Drew place number) (record b { made = made })
drew-goes b s same place x number made there leased next e =
    subst (λ y. Goes sessions_judge y y.last (Drew place number) (record b { made = made })) same
    (record {
      stands = (x, there, leased, next);
      moves = ap (λ m. record b { made = m }) (e ∙ sym (with_session-there b.made place x (λ y. record y { number = number; holding = holding.Drawn }) there));
    })

-- a session is given back
pub returned-goes : (b s : Sessions) → b ≡ s → (place : ℕ) (x : Session) (moment : ℕ) (dirty is_kept_now : Bool) (made : List Session) (kept : List Kept) →
    s.last ≤ moment → slice_get b.made place ≡ Some x → x.holding ≢ holding.Nobody → is_kept_now ≡ is_kept dirty x.number →
    made ≡ slice_set b.made place (record x { holding = holding.Nobody }) → kept ≡ b.kept ++ kept_again is_kept_now place moment →
    Goes sessions_judge s moment (Returned place dirty is_kept_now) (record { made = made; kept = kept; last = moment })
returned-goes b s same place x moment dirty is_kept_now made kept late there held keeps e f =
    subst (λ y. Goes sessions_judge y moment (Returned place dirty is_kept_now) (record { made = made; kept = kept; last = moment })) same
    (record {
      stands = (subst (λ y. y.last ≤ moment) (sym same) late, (x, there, held, keeps));
      moves =
          ap (λ m. record { made = m; kept = kept; last = moment }) (e ∙ sym (with_session-there b.made place x (λ y. record y { holding = holding.Nobody }) there))
          ∙ ap (λ k. record { made = with_session b.made place (λ y. record y { holding = holding.Nobody }); kept = k; last = moment }) f;
    })

-- the newest kept session is leased again
pub reused-goes : (b s : Sessions) → b ≡ s → (k : Kept) (x : Session) (moment : ℕ) (minutes : ℤ) (made : List Session) (kept : List Kept) →
    s.last ≤ moment → newest b ≡ Some k → has_minute_left minutes moment k ≡ true → slice_get b.made k.place ≡ Some x →
    made ≡ slice_set b.made k.place (record x { holding = holding.Leased }) → kept ≡ take (length b.kept - 1) b.kept →
    Goes sessions_judge s moment (Reused k.place minutes) (record { made = made; kept = kept; last = moment })
reused-goes b s same k x moment minutes made kept late last_one left there e f =
    subst (λ y. Goes sessions_judge y moment (Reused k.place minutes) (record { made = made; kept = kept; last = moment })) same
    (record {
      stands = (subst (λ y. y.last ≤ moment) (sym same) late, (k, last_one, refl, left));
      moves =
          ap (λ m. record { made = m; kept = kept; last = moment }) (e ∙ sym (with_session-there b.made k.place x (λ y. record y { holding = holding.Leased }) there))
          ∙ ap (λ ks. record { made = with_session b.made k.place (λ y. record y { holding = holding.Leased }); kept = ks; last = moment }) f;
    })
