-- The ids of sessions stay, and have sixteen bytes.
use Rattle.std.proofs.Common.{◌≡◌, ℕ, zero, suc, ℤ, pos, Bool, true, false, List, [], ◌∷◌, ◌++◌, length, Option, None, Some, refl, sym, ap, ◌∙◌, subst, inl, inr}
use Rattle.std.specs.Prelude.{slice_get}
use Rattle.std.specs.List.{AllByRecursion}
use Rattle.std.specs.Option.{option_and_then, option_map}
use Rattle.std.proofs.lemmas.Bool.Decides.{eqb_tells}
use Rattle.entry_judge.specs.declared.timed.Timed.{Timed}
use Rattle.bson_doc.specs.declared.ids.Lsid.{Lsid}
use Rattle.sess_book.specs.Entries.{SessEntry, after, set_at, with_session}
use Rattle.sess_book.specs.Entries as session
use Rattle.sess_book.specs.Sessions.{Sessions}
use Rattle.sess_book.specs.declared.session.Holding.TheVariants as holding
use Rattle.sess_book.specs.declared.session.Session.{Session}
use Rattle.desk_trail.specs.Clients.{Client}
use Rattle.desk_trail.specs.Facts.{Fact}
use Rattle.desk_trail.specs.Facts as fact
use Rattle.desk_trail.specs.Leases.{IsIdAt, lease_step, minutes_needed, session_held, session_step_of, sessions_by}
use Rattle.desk_trail.specs.Legal.{AreLegal, MayStand, Point, point_behind}
use Rattle.desk_trail.specs.Parts.{session_step}
use Rattle.desk_trail.specs.Requests.{lsid_of}
use Rattle.desk_trail.specs.States.{ClientState, CommandState}
use Rattle.request_keys.proofs.ChangeLemmas.{sessions-after}
use Rattle.request_keys.proofs.ListLemmas.{all-at, all-more, all-set, slice_get-set_other, slice_get-set_same}
use Rattle.request_keys.proofs.TrailLemmas.{Further, along}

-- ---- An id stays with its session

abbrev id_in : Option Session → Option Lsid
id_in o = option_map (λ (x : Session). x.lsid) o

front-id : (made : List Session) (y : Session) (i : ℕ) (id : Lsid) → id_in (slice_get made i) ≡ Some id → id_in (slice_get (made ++ y ∷ []) i) ≡ Some id
front-id [] y i id h = absurd (cc)
front-id (x ∷ xs) y zero id h = h
front-id (x ∷ xs) y (suc i) id h = front-id xs y i id h

with-id : (made : List Session) (place i : ℕ) (f : Session → Session) (id : Lsid) → ((x : Session) → (f x).lsid ≡ x.lsid) → id_in (slice_get made i) ≡ Some id →
    id_in (slice_get (with_session made place f) i) ≡ Some id
with-id made place i f id keeps h = by (slice_get made place) refl
  where
    by : (o : Option Session) → slice_get made place ≡ o → id_in (slice_get (set_at made place o f) i) ≡ Some id
    by None e = h
    by (Some x) e = elim (eqb_tells place i) [
      | inl w ↦
          subst (λ k. id_in (slice_get (set_at made place (Some x) f) k) ≡ Some id) w.1
          (ap id_in (slice_get-set_same made place (f x) x e) ∙ ap (λ y. Some y) (keeps x) ∙ sym (ap id_in e) ∙ subst (λ k. id_in (slice_get made k) ≡ Some id) (sym w.1) h)
      | inr w ↦ ap id_in (slice_get-set_other made place i (f x) w.1) ∙ h
    ]

after-id : (s : Sessions) (moment : ℕ) (e : SessEntry) (i : ℕ) (id : Lsid) → id_in (slice_get s.made i) ≡ Some id → id_in (slice_get (after s moment e).made i) ≡ Some id
after-id s moment (session.Made place lsid minutes) i id h = front-id s.made (record { lsid = lsid; number = pos 0; holding = holding.Leased }) i id h
after-id s moment (session.Reused place minutes) i id h = with-id s.made place i (λ x. record x { holding = holding.Leased }) id (λ x. refl) h
after-id s moment (session.Drew place number) i id h = with-id s.made place i (λ x. record x { number = number; holding = holding.Drawn }) id (λ x. refl) h
after-id s moment (session.Returned place dirty kept) i id h = with-id s.made place i (λ x. record x { holding = holding.Nobody }) id (λ x. refl) h

by-lsid : (s : Sessions) (moment : ℕ) (o : Option SessEntry) (place : Option ℕ) (id : Lsid) → lsid_of s place ≡ Some id → lsid_of (sessions_by moment o s) place ≡ Some id
by-lsid s moment None place id h = h
by-lsid s moment (Some e) None id h = absurd (cc)
by-lsid s moment (Some e) (Some i) id h = after-id s moment e i id h

pub lsid-on : (client : Client) (xs : List (Timed Fact)) (t : Timed Fact) (place : Option ℕ) (id : Lsid) → Further client xs t → lsid_of (point_behind client xs).state.sessions place ≡ Some id →
    lsid_of (point_behind client (xs ++ t ∷ [])).state.sessions place ≡ Some id
lsid-on client xs t place id f h =
    let w = (point_behind client xs).state in
    subst (λ (q : Point). lsid_of q.state.sessions place ≡ Some id) (sym f.to)
    (subst (λ (s : Sessions). lsid_of s place ≡ Some id) (sym (sessions-after client t.at w t.what)) (by-lsid w.sessions t.at (session_step w t.what) place id h))

-- ---- Sixteen bytes

abbrev HasSixteen : Session → Type 0
HasSixteen x = length x.lsid.0 ≡ 16

abbrev AreSixteen : List Session → Type 0
AreSixteen made = AllByRecursion HasSixteen made

abbrev IsNewSixteen : SessEntry → Type 0
IsNewSixteen (session.Made place lsid minutes) = length lsid.0 ≡ 16
IsNewSixteen e = Unit {0}

with-sixteen : (made : List Session) (place : ℕ) (f : Session → Session) → ((x : Session) → (f x).lsid ≡ x.lsid) → AreSixteen made → AreSixteen (with_session made place f)
with-sixteen made place f keeps h = by (slice_get made place) refl
  where
    by : (o : Option Session) → slice_get made place ≡ o → AreSixteen (set_at made place o f)
    by None e = h
    by (Some x) e = all-set HasSixteen made place (f x) h (ap (λ (id : Lsid). length id.0) (keeps x) ∙ all-at HasSixteen made place x h e)

after-sixteen : (s : Sessions) (moment : ℕ) (e : SessEntry) → IsNewSixteen e → AreSixteen s.made → AreSixteen (after s moment e).made
after-sixteen s moment (session.Made place lsid minutes) n h = all-more HasSixteen s.made (record { lsid = lsid; number = pos 0; holding = holding.Leased } ∷ []) h (n, tt)
after-sixteen s moment (session.Reused place minutes) n h = with-sixteen s.made place (λ x. record x { holding = holding.Leased }) (λ x. refl) h
after-sixteen s moment (session.Drew place number) n h = with-sixteen s.made place (λ x. record x { number = number; holding = holding.Drawn }) (λ x. refl) h
after-sixteen s moment (session.Returned place dirty kept) n h = with-sixteen s.made place (λ x. record x { holding = holding.Nobody }) (λ x. refl) h

by-sixteen : (s : Sessions) (moment : ℕ) (o : Option SessEntry) → ((e : SessEntry) → o ≡ Some e → IsNewSixteen e) → AreSixteen s.made → AreSixteen (sessions_by moment o s).made
by-sixteen s moment None n h = h
by-sixteen s moment (Some e) n h = after-sixteen s moment e (n e refl) h

lease-sixteen : (s : Sessions) (place : ℕ) (lsid : Lsid) (fresh : Bool) (o : Option ℤ) (e : SessEntry) → IsIdAt s place lsid fresh → option_map (lease_step place lsid fresh) o ≡ Some e → IsNewSixteen e
lease-sixteen s place lsid fresh None e id q = absurd (cc)
lease-sixteen s place lsid true (Some m) e id q = let one : session.Made place lsid m ≡ e = (cc) in subst IsNewSixteen one id
lease-sixteen s place lsid false (Some m) e id q = let one : session.Reused place m ≡ e = (cc) in subst IsNewSixteen one tt

drew-sixteen : (number : ℤ) (o : Option ℕ) (e : SessEntry) → option_map (λ place. session.Drew place number) o ≡ Some e → IsNewSixteen e
drew-sixteen number None e q = absurd (cc)
drew-sixteen number (Some p) e q = let one : session.Drew p number ≡ e = (cc) in subst IsNewSixteen one tt

returned-sixteen : (dirty kept : Bool) (o : Option ℕ) (e : SessEntry) → option_map (λ place. session.Returned place dirty kept) o ≡ Some e → IsNewSixteen e
returned-sixteen dirty kept None e q = absurd (cc)
returned-sixteen dirty kept (Some p) e q = let one : session.Returned p dirty kept ≡ e = (cc) in subst IsNewSixteen one tt

pub held-is : (w : ClientState) (k : ℕ) (f : Fact) (c : CommandState) → slice_get w.commands k ≡ Some c → session_held w k f ≡ session_step_of c f
held-is w k f c there = ap (λ o. option_and_then (λ x. session_step_of x f) o) there

step-sixteen : (client : Client) (p : Point) (moment : ℕ) (f : Fact) → MayStand client p moment f → (e : SessEntry) → session_step p.state f ≡ Some e → IsNewSixteen e
step-sixteen client p moment (fact.Leased k place lsid fresh) m e q =
    lease-sixteen p.state.sessions place lsid fresh (minutes_needed m.running) e m.id (sym (held-is p.state k (fact.Leased k place lsid fresh) m.running m.there) ∙ q)
step-sixteen client p moment (fact.Drew k number) m e q = drew-sixteen number m.running.session e (sym (held-is p.state k (fact.Drew k number) m.running m.there) ∙ q)
step-sixteen client p moment (fact.Returned k dirty kept) m e q = returned-sixteen dirty kept m.running.session e (sym (held-is p.state k (fact.Returned k dirty kept) m.running m.there) ∙ q)
step-sixteen client p moment f m e q = absurd (cc)

sixteen-step : (client : Client) (xs : List (Timed Fact)) (t : Timed Fact) → Further client xs t → AreSixteen (point_behind client xs).state.sessions.made →
    AreSixteen (point_behind client (xs ++ t ∷ [])).state.sessions.made
sixteen-step client xs t f h =
    let p = point_behind client xs in
    subst (λ (q : Point). AreSixteen q.state.sessions.made) (sym f.to)
    (subst (λ (s : Sessions). AreSixteen s.made) (sym (sessions-after client t.at p.state t.what))
    (by-sixteen p.state.sessions t.at (session_step p.state t.what) (step-sixteen client p t.at t.what f.stands.rule) h))

pub sixteen : (client : Client) (ts : List (Timed Fact)) → AreLegal client ts → AreSixteen (point_behind client ts).state.sessions.made
sixteen client ts l = along client (λ xs. AreSixteen (point_behind client xs).state.sessions.made) (sixteen-step client) [] ts l tt

-- the id of a command's session
pub lsid-sixteen : (s : Sessions) (place : Option ℕ) (id : Lsid) → AreSixteen s.made → lsid_of s place ≡ Some id → length id.0 ≡ 16
lsid-sixteen s None id h e = absurd (cc)
lsid-sixteen s (Some p) id h e = by (slice_get s.made p) refl e
  where
    by : (o : Option Session) → slice_get s.made p ≡ o → id_in o ≡ Some id → length id.0 ≡ 16
    by None x y = absurd (cc)
    by (Some x) y z = let one : x.lsid ≡ id = (cc) in ap (λ (i : Lsid). length i.0) (sym one) ∙ all-at HasSixteen s.made p x h y
