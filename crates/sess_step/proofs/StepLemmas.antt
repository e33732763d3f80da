-- Entries of a command's session: that they may stand, and the client behind them.
use Rattle.std.proofs.Common.{◌≡◌, ℕ, zero, suc, Bool, true, false, List, [], ◌∷◌, ◌++◌, length, map, Option, None, Some, refl, sym, ap, ◌∙◌, subst}
use Rattle.std.proofs.lemmas.List.{length-map, map-append}
use Rattle.std.specs.Option.{option_and_then, option_map}
use Rattle.std.specs.Prelude.{ℤ, slice_get, slice_set}
use Rattle.bson_doc.specs.declared.ids.Lsid.{Lsid}
use Rattle.entry_judge.specs.Groups.{Goes}
use Rattle.sess_book.specs.Entries as session
use Rattle.sess_book.specs.Entries.{SessEntry, sessions_judge, with_session}
use Rattle.sess_book.specs.Sessions.{Sessions}
use Rattle.sess_book.specs.declared.session.Session.{Session}
use Rattle.sess_book.specs.declared.session.Holding.TheVariants as holding
use Rattle.sess_book.proofs.BookLemmas.{new_session}
use Rattle.desk_trail.specs.Clients.{Client}
use Rattle.desk_trail.specs.Facts.{Fact}
use Rattle.desk_trail.specs.Facts as fact
use Rattle.desk_trail.specs.Leases.{IsIdAt, SessionAllows, lease_step, minutes_needed, needs_number, session_held, session_step_of, sessions_by, with_sessions}
use Rattle.desk_trail.specs.Legal.{InTime, MayGoOn, Point, StandsAt, client_after}
use Rattle.desk_trail.specs.Owed.{InTurn}
use Rattle.desk_trail.specs.States.{ClientState, CommandState, changed_at, with_command}
use Rattle.sess_step.specs.Choices.{AreIds, IsAtChoice, IsToReturn}
use Rattle.sess_step.specs.Moves.{IsNamed, lease_lists, with_lease}
use Rattle.sess_step.specs.Takes.{IsTaken}
use Rattle.sess_step.specs.declared.command_at.CommandAt.{CommandAt}

-- ---- The client behind an entry

-- the sessions move by the entry, and the command with them
behind : (w : ClientState) (moment op : ℕ) (f : Fact) (e : SessEntry) (s t : Sessions) (c d : CommandState) (g : CommandState → CommandState) → slice_get w.commands op ≡ Some c →
    session_step_of c f ≡ Some e → w.sessions ≡ s → Goes sessions_judge s moment e t → d ≡ g c → with_command (with_sessions moment op f w) op g ≡ with_lease w op t d
behind w moment op f e s t c d g there step same goes now =
    let held : session_held w op f ≡ Some e = ap (option_and_then (λ (x : CommandState). session_step_of x f)) there ∙ step in
    ap (λ (o : Option SessEntry). let v : ClientState = record w { sessions = sessions_by moment o w.sessions } in with_command v op g) held
    ∙ ap (λ (z : Sessions). let v : ClientState = record w { sessions = session.after z moment e } in with_command v op g) same
    ∙ ap (λ (z : Sessions). let v : ClientState = record w { sessions = z } in with_command v op g) (sym goes.moves)
    ∙ ap (λ (o : Option CommandState). let v : ClientState = record w { sessions = t; commands = changed_at w.commands op o g } in v) there
    ∙ ap (λ (x : CommandState). with_lease w op t x) (sym now)

pub behind-leased : (client : Client) (w : ClientState) (at : CommandAt) (place : ℕ) (lsid : Lsid) (fresh : Bool) (minutes : ℤ) (s t : Sessions) (c d : CommandState) →
    slice_get w.commands at.op ≡ Some c → minutes_needed c ≡ Some minutes → w.sessions ≡ s → Goes sessions_judge s at.moment (lease_step place lsid fresh minutes) t →
    d ≡ record c { session = Some place } → client_after client at.moment w (fact.Leased at.op place lsid fresh) ≡ with_lease w at.op t d
behind-leased client w at place lsid fresh minutes s t c d there needed same goes now =
    behind w at.moment at.op (fact.Leased at.op place lsid fresh) (lease_step place lsid fresh minutes) s t c d (λ x. record x { session = Some place }) there
    (ap (option_map (lease_step place lsid fresh)) needed) same goes now

pub behind-drew : (client : Client) (w : ClientState) (at : CommandAt) (place : ℕ) (number : ℤ) (s t : Sessions) (c d : CommandState) →
    slice_get w.commands at.op ≡ Some c → c.session ≡ Some place → w.sessions ≡ s → Goes sessions_judge s at.moment (session.Drew place number) t →
    d ≡ record c { number = Some number } → client_after client at.moment w (fact.Drew at.op number) ≡ with_lease w at.op t d
behind-drew client w at place number s t c d there has same goes now =
    behind w at.moment at.op (fact.Drew at.op number) (session.Drew place number) s t c d (λ x. record x { number = Some number }) there
    (ap (option_map (λ p. session.Drew p number)) has) same goes now

pub behind-returned : (client : Client) (w : ClientState) (at : CommandAt) (place : ℕ) (kept : Bool) (s t : Sessions) (c d : CommandState) →
    slice_get w.commands at.op ≡ Some c → c.session ≡ Some place → w.sessions ≡ s → Goes sessions_judge s at.moment (session.Returned place c.is_dirty kept) t →
    d ≡ record c { session = None } → client_after client at.moment w (fact.Returned at.op c.is_dirty kept) ≡ with_lease w at.op t d
behind-returned client w at place kept s t c d there has same goes now =
    behind w at.moment at.op (fact.Returned at.op c.is_dirty kept) (session.Returned place c.is_dirty kept) s t c d (λ x. record x { session = None }) there
    (ap (option_map (λ p. session.Returned p c.is_dirty kept)) has) same goes now

-- ---- It may stand

-- the sessions of the client allow the entry
allowed : (w : ClientState) (moment : ℕ) (o : Option SessEntry) (e : SessEntry) (s t : Sessions) → o ≡ Some e → w.sessions ≡ s → Goes sessions_judge s moment e t → SessionAllows w moment o
allowed w moment o e s t is same goes =
    subst (SessionAllows w moment) (sym is) (subst (λ (z : Sessions). session.MayStand z moment e) (sym same) goes.stands)

pub StandsAt-leased : (client : Client) (p : Point) (at : CommandAt) (place : ℕ) (lsid own : Lsid) (fresh : Bool) (minutes : ℤ) (s t : Sessions) (c : CommandState) → IsAtChoice p at c →
    minutes_needed c ≡ Some minutes → p.state.sessions ≡ s → IsTaken s at.moment minutes own place lsid fresh t →
    StandsAt client p (record { at = at.moment; what = fact.Leased at.op place lsid fresh })
StandsAt-leased client p at place lsid own fresh minutes s t c h needed same taken = record {
  time = subst (λ o. InTime o p.moment at.moment) (sym h.paid) h.time;
  turn = subst (λ o. InTurn o (fact.Leased at.op place lsid fresh)) (sym h.paid) tt;
  going = subst (λ g. MayGoOn g (fact.Leased at.op place lsid fresh)) (sym h.goes_on) tt;
  rule = record {
    running = c;
    there = h.there;
    chose = h.chose;
    session = allowed p.state at.moment (session_step_of c (fact.Leased at.op place lsid fresh)) (lease_step place lsid fresh minutes) s t
        (ap (option_map (lease_step place lsid fresh)) needed) same taken.goes;
    id = subst (λ (z : Sessions). IsIdAt z place lsid fresh) (sym same) taken.id;
  };
  command = tt;
}

pub StandsAt-drew : (client : Client) (p : Point) (at : CommandAt) (place : ℕ) (number : ℤ) (s t : Sessions) (c : CommandState) → IsAtChoice p at c → needs_number c ≡ true →
    c.session ≡ Some place → p.state.sessions ≡ s → Goes sessions_judge s at.moment (session.Drew place number) t →
    StandsAt client p (record { at = at.moment; what = fact.Drew at.op number })
StandsAt-drew client p at place number s t c h needs has same goes = record {
  time = subst (λ o. InTime o p.moment at.moment) (sym h.paid) h.time;
  turn = subst (λ o. InTurn o (fact.Drew at.op number)) (sym h.paid) tt;
  going = subst (λ g. MayGoOn g (fact.Drew at.op number)) (sym h.goes_on) tt;
  rule = record {
    running = c;
    there = h.there;
    chose = h.chose;
    needs = needs;
    session = allowed p.state at.moment (session_step_of c (fact.Drew at.op number)) (session.Drew place number) s t (ap (option_map (λ q. session.Drew q number)) has) same goes;
  };
  command = tt;
}

pub StandsAt-returned : (client : Client) (p : Point) (at : CommandAt) (place : ℕ) (kept : Bool) (s t : Sessions) (c : CommandState) → IsToReturn p at c → c.session ≡ Some place →
    p.state.sessions ≡ s → Goes sessions_judge s at.moment (session.Returned place c.is_dirty kept) t →
    StandsAt client p (record { at = at.moment; what = fact.Returned at.op c.is_dirty kept })
StandsAt-returned client p at place kept s t c h has same goes = record {
  time = subst (λ o. InTime o p.moment at.moment) (sym h.owes) h.time;
  turn = subst (λ o. InTurn o (fact.Returned at.op c.is_dirty kept)) (sym h.owes) refl;
  going = subst (λ g. MayGoOn g (fact.Returned at.op c.is_dirty kept)) (sym h.goes_on) tt;
  rule = record {
    running = c;
    there = h.there;
    says = refl;
    session = allowed p.state at.moment (session_step_of c (fact.Returned at.op c.is_dirty kept)) (session.Returned place c.is_dirty kept) s t
        (ap (option_map (λ q. session.Returned q c.is_dirty kept)) has) same goes;
  };
  command = tt;
}

-- ---- Ids

-- one session changes and keeps its id
ids-set : (made : List Session) (place : ℕ) (x y : Session) → slice_get made place ≡ Some x → y.lsid ≡ x.lsid →
    map (λ (z : Session). z.lsid) (slice_set made place y) ≡ map (λ (z : Session). z.lsid) made
ids-set [] place x y h id = refl
ids-set (z ∷ zs) zero x y h id =
    let one : z ≡ x = cc in
    ap (λ i. i ∷ map (λ (w : Session). w.lsid) zs) (id ∙ ap (λ (w : Session). w.lsid) (sym one))
ids-set (z ∷ zs) (suc place) x y h id = ap (λ is. z.lsid ∷ is) (ids-set zs place x y h id)

ids-changed : (made : List Session) (place : ℕ) (f : Session → Session) (o : Option Session) → slice_get made place ≡ o → ((x : Session) → (f x).lsid ≡ x.lsid) →
    map (λ (z : Session). z.lsid) (session.set_at made place o f) ≡ map (λ (z : Session). z.lsid) made
ids-changed made place f None h keeps = refl
ids-changed made place f (Some x) h keeps = ids-set made place x (f x) h (keeps x)

ids-kept : (ids : List Lsid) (s t : Sessions) (place : ℕ) (f : Session → Session) → ((x : Session) → (f x).lsid ≡ x.lsid) → AreIds ids s → t.made ≡ with_session s.made place f → AreIds ids t
ids-kept ids s t place f keeps h now =
    h ∙ sym (ids-changed s.made place f (slice_get s.made place) refl keeps) ∙ ap (map (λ (z : Session). z.lsid)) (sym now)

pub ids-drew : (ids : List Lsid) (s t : Sessions) (moment place : ℕ) (number : ℤ) → AreIds ids s → Goes sessions_judge s moment (session.Drew place number) t → AreIds ids t
ids-drew ids s t moment place number h goes =
    ids-kept ids s t place (λ x. record x { number = number; holding = holding.Drawn }) (λ x. refl) h (ap (λ (u : Sessions). u.made) goes.moves)

pub ids-returned : (ids : List Lsid) (s t : Sessions) (moment place : ℕ) (dirty kept : Bool) → AreIds ids s → Goes sessions_judge s moment (session.Returned place dirty kept) t → AreIds ids t
ids-returned ids s t moment place dirty kept h goes =
    ids-kept ids s t place (λ x. record x { holding = holding.Nobody }) (λ x. refl) h (ap (λ (u : Sessions). u.made) goes.moves)

pub ids-leased : (l : fact.Lists) (s t : Sessions) (moment place : ℕ) (lsid : Lsid) (fresh : Bool) (minutes : ℤ) → AreIds l.sessions s →
    Goes sessions_judge s moment (lease_step place lsid fresh minutes) t → AreIds (lease_lists fresh lsid l).sessions t
ids-leased l s t moment place lsid true minutes h goes =
    ap (λ is. is ++ lsid ∷ []) h
    ∙ sym (map-append (λ (z : Session). z.lsid) s.made (new_session lsid ∷ []))
    ∙ ap (λ (u : Sessions). map (λ (z : Session). z.lsid) u.made) (sym goes.moves)
ids-leased l s t moment place lsid false minutes h goes =
    ids-kept l.sessions s t place (λ x. record x { holding = holding.Leased }) (λ x. refl) h (ap (λ (u : Sessions). u.made) goes.moves)

-- the id that stands at a place
id-at : (made : List Session) (place : ℕ) (x : Session) → slice_get made place ≡ Some x → slice_get (map (λ (z : Session). z.lsid) made) place ≡ Some x.lsid
id-at [] place x h = absurd (cc)
id-at (z ∷ zs) zero x h = let one : z ≡ x = cc in ap (λ (w : Session). Some w.lsid) one
id-at (z ∷ zs) (suc place) x h = id-at zs place x h

pub named : (ids : List Lsid) (s t : Sessions) (moment place : ℕ) (lsid own : Lsid) (fresh : Bool) (minutes : ℤ) → AreIds ids s →
    IsTaken s moment minutes own place lsid fresh t → IsNamed fresh place lsid ids
named ids s t moment place lsid own true minutes h taken =
    taken.goes.stands.1 ∙ sym (length-map s.made (λ (z : Session). z.lsid)) ∙ ap length (sym h)
named ids s t moment place lsid own false minutes h taken =
    ap (λ is. slice_get is place) h ∙ id-at s.made place taken.id.0 taken.id.1 ∙ ap Some taken.id.2
