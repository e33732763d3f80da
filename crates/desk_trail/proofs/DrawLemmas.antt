-- A session's id and a number are drawn together at most once.
use Rattle.std.proofs.Common.{◌≡◌, ◌≤◌, ℕ, ◌+◌, List, [], ◌∷◌, ◌++◌, length, take, Option, None, Some, refl, sym, ap, ◌∙◌, subst, arith, inl, inr}
use Rattle.std.specs.Prelude.{ℤ, pos, slice_get}
use Rattle.std.specs.Option.{option_map}
use Rattle.std.proofs.lemmas.Bool.{eq-eqb}
use Rattle.std.proofs.lemmas.Bool.Decides.{eqb_tells}
use Rattle.std.proofs.lemmas.List.{append_assoc}
use Rattle.bson_doc.specs.declared.ids.Lsid.{Lsid}
use Rattle.entry_judge.specs.declared.timed.Timed.{Timed}
use Rattle.entry_judge.specs.Groups.{Place, entries_of, place_behind}
use Rattle.entry_judge.specs.Judge.{Legal, state_after}
use Rattle.entry_judge.specs.LegalLaws.{Legal-front, Legal-rest, state_after-append}
use Rattle.sess_book.specs.Entries.{SessEntry, after, sessions_judge, with_session}
use Rattle.sess_book.specs.Entries as session
use Rattle.sess_book.specs.Laws.{IdsDiffer, IsHistory, draws}
use Rattle.sess_book.specs.Sessions.{Sessions, no_sessions}
use Rattle.sess_book.specs.declared.session.Holding.TheVariants as holding
use Rattle.sess_book.specs.declared.session.Session.{Session}
use Rattle.desk_trail.specs.Clients.{Client}
use Rattle.desk_trail.specs.Facts.{Fact}
use Rattle.desk_trail.specs.Facts as fact
use Rattle.desk_trail.specs.Leases.{SessionAllows, sessions_by}
use Rattle.desk_trail.specs.Legal.{AreLegal, Point, StandsAt, beginning, point_after, point_behind}
use Rattle.desk_trail.specs.Parts.{of_sessions, session_part, session_step, session_tells, told_from}
use Rattle.desk_trail.specs.Requests.{lsid_of}
use Rattle.desk_trail.specs.States.{ClientState, CommandState}
use Rattle.desk_trail.proofs.HolderLemmas.{held-step, sessions-after, set-other, set-same, slice_get-front, slice_get-last, take-front}
use Rattle.desk_trail.proofs.LentFreeLemmas.{told_from-more}
use Rattle.desk_trail.proofs.OrderLemmas.{last-stands}
use Rattle.desk_trail.proofs.TopologyLemmas.{session-leads}

-- ---- An id stays with its session

abbrev id_in : Option Session → Option Lsid
id_in o = option_map (λ (x : Session). x.lsid) o

front-id : (made : List Session) (y : Session) (i : ℕ) (id : Lsid) (o : Option Session) → slice_get made i ≡ o → id_in o ≡ Some id → id_in (slice_get (made ++ y ∷ []) i) ≡ Some id
front-id made y i id None e h = absurd (cc)
front-id made y i id (Some x) e h = ap id_in (slice_get-front made (y ∷ []) i x e) ∙ h

kept-id : (f : Session → Session) → ((x : Session) → (f x).lsid ≡ x.lsid) → (o : Option Session) → id_in (option_map f o) ≡ id_in o
kept-id f keeps None = refl
kept-id f keeps (Some x) = ap (λ y. Some y) (keeps x)

with-id : (made : List Session) (place i : ℕ) (f : Session → Session) (id : Lsid) → ((x : Session) → (f x).lsid ≡ x.lsid) → id_in (slice_get made i) ≡ Some id →
    id_in (slice_get (with_session made place f) i) ≡ Some id
with-id made place i f id keeps h = elim (eqb_tells place i) [
  | inl w ↦
      subst (λ k. id_in (slice_get (with_session made place f) k) ≡ Some id) w.1
      (ap id_in (set-same made place f (slice_get made place) refl) ∙ kept-id f keeps (slice_get made place)
      ∙ subst (λ k. id_in (slice_get made k) ≡ Some id) (sym w.1) h)
  | inr w ↦ ap id_in (set-other made place i f (slice_get made place) w.1) ∙ h
]

after-id : (s : Sessions) (moment : ℕ) (e : SessEntry) (i : ℕ) (id : Lsid) → id_in (slice_get s.made i) ≡ Some id → id_in (slice_get (after s moment e).made i) ≡ Some id
after-id s moment (session.Made place lsid minutes) i id h =
    front-id s.made (record { lsid = lsid; number = pos 0; holding = holding.Leased }) i id (slice_get s.made i) refl h
after-id s moment (session.Reused place minutes) i id h = with-id s.made place i (λ x. record x { holding = holding.Leased }) id (λ x. refl) h
after-id s moment (session.Drew place number) i id h = with-id s.made place i (λ x. record x { number = number; holding = holding.Drawn }) id (λ x. refl) h
after-id s moment (session.Returned place dirty kept) i id h = with-id s.made place i (λ x. record x { holding = holding.Nobody }) id (λ x. refl) h

by-id : (s : Sessions) (moment : ℕ) (o : Option SessEntry) (i : ℕ) (id : Lsid) → id_in (slice_get s.made i) ≡ Some id → id_in (slice_get (sessions_by moment o s).made i) ≡ Some id
by-id s moment None i id h = h
by-id s moment (Some e) i id h = after-id s moment e i id h

id-along : (client : Client) (p : Point) (ts : List (Timed Fact)) (i : ℕ) (id : Lsid) → Legal (StandsAt client) (point_after client) p ts →
    id_in (slice_get p.state.sessions.made i) ≡ Some id → id_in (slice_get (state_after (point_after client) p ts).state.sessions.made i) ≡ Some id
id-along client p [] i id l h = h
id-along client p (t ∷ ts) i id l h =
    id-along client (point_after client p t) ts i id l.1
    (subst (λ (s : Sessions). id_in (slice_get s.made i) ≡ Some id) (sym (sessions-after client p t l.0))
    (by-id p.state.sessions t.at (session_step p.state t.what) i id h))

-- ---- A draw, and its number

record Draws (client : Client) (xs : List (Timed Fact)) (moment op : ℕ) (number : ℤ) : Type 0 where
  pub running : CommandState
  pub there : slice_get (point_behind client xs).state.commands op ≡ Some running
  pub place : ℕ
  pub has : running.session ≡ Some place
  pub one : Session
  pub stands : slice_get (point_behind client xs).state.sessions.made place ≡ Some one
  pub tells : session_tells (point_behind client xs) (record { at = moment; what = fact.Drew op number }) ≡ record { at = moment; what = session.Drew place number } ∷ []

draw-of : (client : Client) (xs : List (Timed Fact)) (moment op : ℕ) (number : ℤ) → StandsAt client (point_behind client xs) (record { at = moment; what = fact.Drew op number }) →
    Draws client xs moment op number
draw-of client xs moment op number s = by s.rule.running.session refl s.rule.session where
  by : (o : Option ℕ) → s.rule.running.session ≡ o → SessionAllows (point_behind client xs).state moment (option_map (λ place. session.Drew place number) o) → Draws client xs moment op number
  by None e a = absurd a
  by (Some place) e a = record {
    running = s.rule.running;
    there = s.rule.there;
    place = place;
    has = e;
    one = a.0;
    stands = a.1;
    tells = ap (λ o. of_sessions moment o) (held-step (point_behind client xs).state op (fact.Drew op number) s.rule.running s.rule.there
        ∙ ap (λ o. option_map (λ p. session.Drew p number) o) e);
  }

-- what a law of sessions says of each number
abbrev pub NumbersRise : Type 0
NumbersRise = (ts : List (Timed SessEntry)) → IsHistory ts → (k moment place : ℕ) (number : ℤ) →
    slice_get ts k ≡ Some (record { at = moment; what = session.Drew place number }) → number ≡ pos (draws place (entries_of (take k ts)) + 1)

number-is : NumbersRise → (client : Client) (xs : List (Timed Fact)) (moment op : ℕ) (number : ℤ) → AreLegal client (xs ++ record { at = moment; what = fact.Drew op number } ∷ []) →
    (d : Draws client xs moment op number) → number ≡ pos (draws d.place (entries_of (session_part client xs)) + 1)
number-is law client xs moment op number l d =
    let t : Timed Fact = record { at = moment; what = fact.Drew op number } in
    let x : Timed SessEntry = record { at = moment; what = session.Drew d.place number } in
    let part = session_part client xs in
    let all : session_part client (xs ++ t ∷ []) ≡ part ++ x ∷ [] = told_from-more client session_tells (beginning client) xs t ∙ ap (λ ys. part ++ ys) d.tells in
    let h : IsHistory (part ++ x ∷ []) = subst IsHistory all (session-leads client (xs ++ t ∷ []) l).legal in
    law (part ++ x ∷ []) h (length part) moment d.place number (slice_get-last part x)
    ∙ ap (λ ys. pos (draws d.place (entries_of ys) + 1)) (take-front part (x ∷ []))

-- ---- Draws are counted on

told_from-both : {A : Type 0} (client : Client) (tells : Point → Timed Fact → List A) (p : Point) (xs ys : List (Timed Fact)) →
    told_from client tells p (xs ++ ys) ≡ told_from client tells p xs ++ told_from client tells (state_after (point_after client) p xs) ys
told_from-both client tells p [] ys = refl
told_from-both client tells p (x ∷ xs) ys =
    let q = point_after client p x in
    ap (λ zs. tells p x ++ zs) (told_from-both client tells q xs ys)
    ∙ sym (append_assoc (tells p x) (told_from client tells q xs) (told_from client tells (state_after (point_after client) q xs) ys))

draws-more : (place : ℕ) (xs ys : List (Timed SessEntry)) → draws place (entries_of (xs ++ ys)) ≡ draws place (entries_of xs) + draws place (entries_of ys)
draws-more place [] ys = omega arith
draws-more place (x ∷ xs) ys = omega (arith, draws-more place xs ys)

draws-own : (moment place : ℕ) (number : ℤ) (ys : List (Timed SessEntry)) → 1 ≤ draws place (entries_of (record { at = moment; what = session.Drew place number } ∷ ys))
draws-own moment place number ys = rw (eq-eqb place place refl) (omega arith)

grown : (client : Client) (xs ys : List (Timed Fact)) (moment op : ℕ) (number : ℤ) (d : Draws client xs moment op number) →
    draws d.place (entries_of (session_part client xs)) + 1 ≤ draws d.place (entries_of (session_part client (xs ++ record { at = moment; what = fact.Drew op number } ∷ ys)))
grown client xs ys moment op number d =
    let t : Timed Fact = record { at = moment; what = fact.Drew op number } in
    let p = point_behind client xs in
    let x : Timed SessEntry = record { at = moment; what = session.Drew d.place number } in
    let rest = told_from client session_tells (point_after client p t) ys in
    let part = session_part client xs in
    let all : session_part client (xs ++ t ∷ ys) ≡ part ++ x ∷ rest =
    told_from-both client session_tells (beginning client) xs (t ∷ ys) ∙ ap (λ zs. part ++ (zs ++ rest)) d.tells in
    let more = draws-more d.place part (x ∷ rest) in
    let own = draws-own moment d.place number rest in
    subst (λ zs. draws d.place (entries_of part) + 1 ≤ draws d.place (entries_of zs)) (sym all) (omega arith)

-- ---- The pair

abbrev pub IdsApart : Type 0
IdsApart = (ts : List (Timed SessEntry)) → IsHistory ts → IdsDiffer (place_behind sessions_judge no_sessions ts).state.made

lsid-read : (w : ClientState) (c : CommandState) (place : ℕ) (one : Session) → c.session ≡ Some place → slice_get w.sessions.made place ≡ Some one →
    lsid_of w.sessions c.session ≡ Some one.lsid
lsid-read w c place one e f = ap (λ o. lsid_of w.sessions o) e ∙ ap id_in f

same-command : (cs : List CommandState) (op : ℕ) (c d : CommandState) → slice_get cs op ≡ Some c → slice_get cs op ≡ Some d → c ≡ d
same-command cs op c d e f = cc

its-id : (client : Client) (xs : List (Timed Fact)) (moment op : ℕ) (number : ℤ) (d : Draws client xs moment op number) (c : CommandState) →
    slice_get (point_behind client xs).state.commands op ≡ Some c → lsid_of (point_behind client xs).state.sessions c.session ≡ Some d.one.lsid
its-id client xs moment op number d c there =
    let w = (point_behind client xs).state in
    ap (λ (y : CommandState). lsid_of w.sessions y.session) (same-command w.commands op c d.running there d.there) ∙ lsid-read w d.running d.place d.one d.has d.stands

found-id : (o : Option Session) (id : Lsid) → id_in o ≡ Some id → (x : Session) × (o ≡ Some x) × (x.lsid ≡ id)
found-id None id h = absurd (cc)
found-id (Some x) id h = (x, refl, let same : x.lsid ≡ id = cc in same)

no-number : (a b : ℕ) (m n : ℤ) → m ≡ pos (a + 1) → n ≡ pos (b + 1) → a + 1 ≤ b → m ≡ n → ⊥
no-number a b m n e f h s =
    let p : pos (a + 1) ≡ pos (b + 1) = sym e ∙ s ∙ f in
    let q : a + 1 ≡ b + 1 = cc in
    absurd (omega arith)

pub pair-once : IdsApart → NumbersRise → (client : Client) (xs ys : List (Timed Fact)) (first second a b : ℕ) (m n : ℤ) (x y : CommandState) →
    AreLegal client (xs ++ record { at = first; what = fact.Drew a m } ∷ (ys ++ record { at = second; what = fact.Drew b n } ∷ [])) →
    slice_get (point_behind client xs).state.commands a ≡ Some x →
    slice_get (point_behind client (xs ++ record { at = first; what = fact.Drew a m } ∷ ys)).state.commands b ≡ Some y →
    lsid_of (point_behind client xs).state.sessions x.session ≡ lsid_of (point_behind client (xs ++ record { at = first; what = fact.Drew a m } ∷ ys)).state.sessions y.session →
    m ≡ n → ⊥
pair-once ids numbers client xs ys first second a b m n x y l i j same is =
    let t : Timed Fact = record { at = first; what = fact.Drew a m } in
    let u : Timed Fact = record { at = second; what = fact.Drew b n } in
    let zs = xs ++ t ∷ ys in
    let all : AreLegal client (zs ++ u ∷ []) = subst (AreLegal client) (sym (append_assoc xs (t ∷ ys) (u ∷ []))) l in
    let one : AreLegal client (xs ++ t ∷ []) = Legal-front (StandsAt client) (point_after client) (beginning client) (xs ++ t ∷ []) (ys ++ u ∷ [])
    (subst (AreLegal client) (sym (append_assoc xs (t ∷ []) (ys ++ u ∷ []))) l) in
    let front : AreLegal client zs = Legal-front (StandsAt client) (point_after client) (beginning client) zs (u ∷ []) all in
    let d = draw-of client xs first a m (last-stands client (beginning client) xs t one) in
    let e = draw-of client zs second b n (last-stands client (beginning client) zs u all) in
    let w = (point_behind client xs).state in
    let v = (point_behind client zs).state in
    let own : lsid_of w.sessions x.session ≡ Some d.one.lsid =
    its-id client xs first a m d x i in
    let its : lsid_of v.sessions y.session ≡ Some e.one.lsid =
    its-id client zs second b n e y j in
    let lsid : d.one.lsid ≡ e.one.lsid = cc in
    let to : point_behind client zs ≡ state_after (point_after client) (point_behind client xs) (t ∷ ys) = state_after-append (point_after client) (beginning client) xs (t ∷ ys) in
    let rest = Legal-rest (StandsAt client) (point_after client) (beginning client) xs (t ∷ ys) front in
    let later : id_in (slice_get v.sessions.made d.place) ≡ Some d.one.lsid =
    subst (λ (q : Point). id_in (slice_get q.state.sessions.made d.place) ≡ Some d.one.lsid) (sym to)
    (id-along client (point_behind client xs) (t ∷ ys) d.place d.one.lsid rest (ap id_in d.stands)) in
    let f = found-id (slice_get v.sessions.made d.place) d.one.lsid later in
    let s = session-leads client zs front in
    let apart : IdsDiffer v.sessions.made = subst (λ (q : Place Sessions SessEntry). IdsDiffer q.state.made) (sym s.to) (ids (session_part client zs) s.legal) in
    let place : d.place ≡ e.place = apart d.place e.place f.0 e.one f.1 e.stands (f.2 ∙ lsid) in
    let first_is = number-is numbers client xs first a m one d in
    let second_is : n ≡ pos (draws d.place (entries_of (session_part client zs)) + 1) =
    subst (λ k. n ≡ pos (draws k (entries_of (session_part client zs)) + 1)) (sym place) (number-is numbers client zs second b n all e) in
    no-number (draws d.place (entries_of (session_part client xs))) (draws d.place (entries_of (session_part client zs))) m n first_is second_is
    (grown client xs ys first a m d) is
