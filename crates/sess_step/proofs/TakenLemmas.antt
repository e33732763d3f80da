-- What a lease of the book says of the leases that are kept.
use Rattle.std.proofs.Common.{◌≡◌, ◌≢◌, ℕ, Bool, true, false, List, [], ◌∷◌, ◌++◌, length, Option, None, Some, refl, sym, ap, ◌∙◌, subst, arith, zero, suc}
use Rattle.std.specs.Prelude.{ℤ, slice_get, slice_set}
use Rattle.std.proofs.lemmas.Option.{slice_get_within}
use Rattle.bson_doc.specs.declared.ids.Lsid.{Lsid}
use Rattle.entry_judge.specs.Groups.{Goes}
use Rattle.sess_book.specs.Answers.{IsHeld, IsOf, LeasesBy}
use Rattle.sess_book.specs.Entries.{Made, Reused, Drew, Returned, sessions_judge, set_at, with_session}
use Rattle.sess_book.specs.Sessions.{Sessions}
use Rattle.sess_book.specs.declared.lease.Lease.{Lease}
use Rattle.sess_book.specs.declared.session.Session.{Session}
use Rattle.sess_book.specs.declared.session.Holding.{Holding}
use Rattle.sess_book.specs.declared.session.Holding.TheVariants as holding
use Rattle.sess_book.proofs.BookLemmas.{new_session, with_session-there}
use Rattle.sess_book.proofs.ListLemmas.{slice_get-pushed, slice_get-set_same}
use Rattle.sess_step.specs.Inside.{AreKept, IsPlaced, IsPut}
use Rattle.sess_step.specs.Takes.{IsHeldAt, IsTaken}
use Rattle.sess_step.proofs.KeptLemmas.{AreKept-left, AreKept-push, AreKept-set}

-- ---- One session changes

-- the session that stood where one stands behind a change
pub record IsChanged (made : List Session) (place : ℕ) (f : Session → Session) (y : Session) : Type 0 where
  pub before : Session
  pub there : slice_get made place ≡ Some before
  pub is : y ≡ f before

changed_from : (made : List Session) (place : ℕ) (f : Session → Session) (o : Option Session) (y : Session) → slice_get made place ≡ o →
    slice_get (set_at made place o f) place ≡ Some y → IsChanged made place f y
changed_from made place f None y e h = absurd (cc)
changed_from made place f (Some x) y e h =
    let now = slice_get-set_same made place (f x) x e in
    let one : f x ≡ y = cc in
    record { before = x; there = e; is = sym one }

changed : (made : List Session) (place : ℕ) (f : Session → Session) (y : Session) → slice_get (with_session made place f) place ≡ Some y → IsChanged made place f y
changed made place f y h = changed_from made place f (slice_get made place) y refl h

-- a list that is set twice at one place
pub set-twice : {A : Type 0} (xs : List A) (k : ℕ) (x y : A) → slice_set (slice_set xs k x) k y ≡ slice_set xs k y
set-twice [] k x y = refl
set-twice (z ∷ zs) zero x y = refl
set-twice (z ∷ zs) (suc k) x y = ap (λ v. z ∷ v) (set-twice zs k x y)

-- a session that was held by nobody, or by somebody, as the book says
pub IsHeldAt-set : (made : List Session) (place : ℕ) (x : Session) (f : Session → Session) (s : Sessions) → slice_get made place ≡ Some x → s.made ≡ with_session made place f →
    IsHeldAt s place (f x).holding
IsHeldAt-set made place x f s here now = record {
  session = f x;
  there = ap (λ m. slice_get m place) (now ∙ with_session-there made place x f here) ∙ slice_get-set_same made place (f x) x here;
  so = refl;
}

-- ---- A lease

-- what stood where a session is leased again
reused : (s t : Sessions) (moment : ℕ) (minutes : ℤ) (l : Lease) → Goes sessions_judge s moment (Reused l.place minutes) t → (of : IsOf l t) →
    IsChanged s.made l.place (λ x. record x { holding = holding.Leased }) of.session
reused s t moment minutes l goes of =
    changed s.made l.place (λ x. record x { holding = holding.Leased }) of.session
    (subst (λ m. slice_get m l.place ≡ Some of.session) (ap (λ (u : Sessions). u.made) goes.moves) of.there)

pub lease-placed : (s t : Sessions) (moment : ℕ) (minutes : ℤ) (own : Lsid) (l : Lease) (count : ℕ) (b : Bool) → count ≡ length s.made → LeasesBy s moment minutes own l b t → IsOf l t →
    IsPlaced b l.place count
lease-placed s t moment minutes own l count true c by of = by.1.stands.1 ∙ sym c
lease-placed s t moment minutes own l count false c by of =
    let was = reused s t moment minutes l by of in
    let lt = slice_get_within s.made l.place was.before was.there in
    omega (arith, lt, c)

pub lease-kept : (s t : Sessions) (moment : ℕ) (minutes : ℤ) (own : Lsid) (l : Lease) (old new : List (Option Lease)) (b : Bool) → AreKept s.made old → LeasesBy s moment minutes own l b t →
    IsOf l t → IsPut l b old new → AreKept t.made new
lease-kept s t moment minutes own l old new true h by of put =
    subst (λ m. AreKept m new) (sym (ap (λ (u : Sessions). u.made) by.1.moves))
    (subst (λ ls. AreKept (s.made ++ new_session own ∷ []) ls) (sym put) (AreKept-push s.made old (new_session own) l h by.1.stands.1 by.0))
lease-kept s t moment minutes own l old new false h by of put =
    let was = reused s t moment minutes l by of in
    let y : Session = record was.before { holding = holding.Leased } in
    let id : l.lsid ≡ y.lsid = of.same ∙ ap (λ (z : Session). z.lsid) was.is in
    subst (λ m. AreKept m new) (sym (ap (λ (u : Sessions). u.made) by.moves ∙ with_session-there s.made l.place was.before (λ x. record x { holding = holding.Leased }) was.there))
    (subst (λ ls. AreKept (slice_set s.made l.place y) ls) (sym put) (AreKept-set s.made old l.place was.before y l h was.there refl id))

pub lease-taken : (s t : Sessions) (moment : ℕ) (minutes : ℤ) (own : Lsid) (l : Lease) (b : Bool) → length own.0 ≡ 16 → LeasesBy s moment minutes own l b t → IsOf l t →
    IsTaken s moment minutes own l.place l.lsid b t
lease-taken s t moment minutes own l true size by of = record {
  goes = subst (λ i. Goes sessions_judge s moment (Made l.place i minutes) t) (sym by.0) by.1;
  made = λ e. by.0;
  id = ap (λ (i : Lsid). length i.0) by.0 ∙ size;
  held = record {
    session = new_session own;
    there = ap (λ (u : Sessions). slice_get u.made l.place) by.1.moves
        ∙ subst (λ n. slice_get (s.made ++ new_session own ∷ []) n ≡ Some (new_session own)) (sym by.1.stands.1) (slice_get-pushed s.made (new_session own));
    so = refl;
  };
}
lease-taken s t moment minutes own l false size by of =
    let was = reused s t moment minutes l by of in
    record {
      goes = by;
      made = λ e. absurd (cc);
      id = (was.before, was.there, sym (of.same ∙ ap (λ (z : Session). z.lsid) was.is));
      held = record { session = of.session; there = of.there; so = ap (λ (z : Session). z.holding) was.is };
    }

-- ---- A draw, and a return

-- a lease is that of the session at a place, which is held so
pub record IsTheLease (s : Sessions) (place : ℕ) (x : Session) (held : Holding) (l : Lease) : Type 0 where
  pub at : l.place ≡ place
  pub id : l.lsid ≡ x.lsid
  pub is_held : IsHeld s l held

-- the lease of a session that is out is there
pub lease-out : (s : Sessions) (leases : List (Option Lease)) (place : ℕ) (x : Session) (held : Holding) (o : Option Lease) → AreKept s.made leases → slice_get s.made place ≡ Some x →
    x.holding ≡ held → held ≢ holding.Nobody → slice_get leases place ≡ Some o → (l : Lease) × (o ≡ Some l) × IsTheLease s place x held l
lease-out s leases place x held o h here so out got =
    let k = h.out place x here (λ e. out (sym so ∙ e)) in
    let there = k.there in
    let one : o ≡ Some k.lease = cc in (
      k.lease,
      one,
      record {
        at = k.at;
        id = k.id;
        is_held = record { session = x; there = subst (λ n. slice_get s.made n ≡ Some x) (sym k.at) here; same = k.id; held = so };
      },
    )

pub the-lease : (s : Sessions) (leases : List (Option Lease)) (place : ℕ) (x : Session) (held : Holding) (o : Option Lease) (l : Lease) → AreKept s.made leases →
    slice_get s.made place ≡ Some x → x.holding ≡ held → held ≢ holding.Nobody → slice_get leases place ≡ Some o → o ≡ Some l → IsTheLease s place x held l
the-lease s leases place x held o l h here so out got is =
    let k = lease-out s leases place x held o h here so out got in
    let first = k.1 in
    let one : k.0 ≡ l = cc in
    subst (IsTheLease s place x held) one k.2

pub leased-out : holding.Leased ≢ holding.Nobody
leased-out e = cc

pub drew-kept : (s t : Sessions) (moment place : ℕ) (number : ℤ) (x : Session) (l : Lease) (old new : List (Option Lease)) → AreKept s.made old →
    Goes sessions_judge s moment (Drew place number) t → slice_get s.made place ≡ Some x → l.place ≡ place → l.lsid ≡ x.lsid →
    new ≡ slice_set (slice_set old place None) place (Some l) → AreKept t.made new
drew-kept s t moment place number x l old new h goes here at id now =
    let y : Session = record x { number = number; holding = holding.Drawn } in
    subst (λ m. AreKept m new) (sym (ap (λ (u : Sessions). u.made) goes.moves ∙ with_session-there s.made place x (λ z. record z { number = number; holding = holding.Drawn }) here))
    (subst (λ ls. AreKept (slice_set s.made place y) ls) (sym (now ∙ set-twice old place None (Some l))) (AreKept-set s.made old place x y l h here at id))

pub returned-kept : (s t : Sessions) (moment place : ℕ) (dirty kept : Bool) (x : Session) (old new : List (Option Lease)) → AreKept s.made old →
    Goes sessions_judge s moment (Returned place dirty kept) t → slice_get s.made place ≡ Some x → new ≡ slice_set old place None → AreKept t.made new
returned-kept s t moment place dirty kept x old new h goes here now =
    let y : Session = record x { holding = holding.Nobody } in
    subst (λ m. AreKept m new) (sym (ap (λ (u : Sessions). u.made) goes.moves ∙ with_session-there s.made place x (λ z. record z { holding = holding.Nobody }) here))
    (subst (λ ls. AreKept (slice_set s.made place y) ls) (sym now) (AreKept-left s.made old place x y h here refl))
