-- Each session that is out is one command's.
use Rattle.std.proofs.Common.{◌≡◌, ℕ, zero, suc, Bool, true, false, List, [], ◌∷◌, ◌++◌, length, map, take, Option, None, Some, refl, sym, ap, ◌∙◌, subst, inl, inr}
use Rattle.std.specs.Prelude.{ℤ, pos, slice_get}
use Rattle.std.specs.Option.{option_map, option_and_then}
use Rattle.std.proofs.lemmas.Bool.{eq-eqb}
use Rattle.std.proofs.lemmas.Bool.Decides.{eqb_tells}
use Rattle.std.proofs.lemmas.Option.{slice_get-map}
use Rattle.bson_doc.specs.declared.ids.Lsid.{Lsid}
use Rattle.cmd_build.specs.declared.command.Command.{Command}
use Rattle.entry_judge.specs.declared.timed.Timed.{Timed}
use Rattle.entry_judge.specs.Groups.{Place, next_place, nothing_owed, place_behind}
use Rattle.entry_judge.specs.Judge.{state_after}
use Rattle.sess_book.specs.Entries.{MayStand, SessEntry, after, sessions_judge, set_at, with_session}
use Rattle.sess_book.specs.Entries as session
use Rattle.sess_book.specs.Laws.{IsHeldByNobody, IsHistory, leases}
use Rattle.sess_book.specs.Sessions.{Sessions, no_sessions}
use Rattle.sess_book.specs.declared.session.Holding.TheVariants as holding
use Rattle.sess_book.specs.declared.session.Session.{Session}
use Rattle.desk_trail.specs.declared.entry.LookedHow.{LookedHow}
use Rattle.desk_trail.specs.declared.entry.LookedHow.TheVariants as looked
use Rattle.desk_trail.specs.Attempts.{finished}
use Rattle.desk_trail.specs.Clients.{Client}
use Rattle.desk_trail.specs.Facts.{Fact}
use Rattle.desk_trail.specs.Facts as fact
use Rattle.desk_trail.specs.Leases.{IsIdAt, SessionAllows, lease_step, minutes_needed, session_held, session_step_of, sessions_by}
use Rattle.desk_trail.specs.Legal.{AreLegal, Point, StandsAt, beginning, client_after, point_after, point_behind}
use Rattle.desk_trail.specs.Looks.{look_by}
use Rattle.desk_trail.specs.Parts.{of_sessions, session_part, session_step, session_tells}
use Rattle.desk_trail.specs.States.{ClientState, CommandState, changed, fresh_command}
use Rattle.desk_trail.proofs.FieldLemmas.{Apart, is_plain, kept, plain-kept, read}
use Rattle.desk_trail.proofs.LentFreeLemmas.{told_from-more}
use Rattle.desk_trail.proofs.ListLemmas.{changed-other, changed-same, slice_get-set_other, slice_get-set_same}
use Rattle.desk_trail.proofs.PartLemmas.{Further, along}
use Rattle.desk_trail.proofs.TopologyLemmas.{session-leads, session-step-leads}

-- ---- The session of a command

abbrev pub sess : CommandState → Option ℕ
sess c = c.session

look_by-sess : (w : ClientState) (moment : ℕ) (h : LookedHow) (c : CommandState) → sess (look_by w moment h c) ≡ sess c
look_by-sess w moment looked.NoneFits c = refl
look_by-sess w moment (looked.Chosen x) c = refl
look_by-sess w moment looked.Failed c = refl
look_by-sess w moment (looked.Incompatible x) c = refl

Apart-sess : Apart sess
Apart-sess = record { outs = λ c h. refl; dials = λ m n c. refl; asks = λ c m. refl; looks = look_by-sess; ends = λ e c. refl; events = λ e c. refl }

-- ---- Sessions that are out

pub set-same : (made : List Session) (place : ℕ) (f : Session → Session) (o : Option Session) → slice_get made place ≡ o → slice_get (set_at made place o f) place ≡ option_map f o
set-same made place f None h = h
set-same made place f (Some x) h = slice_get-set_same made place (f x) x h

pub set-other : (made : List Session) (place i : ℕ) (f : Session → Session) (o : Option Session) → (place ≡ i → ⊥) → slice_get (set_at made place o f) i ≡ slice_get made i
set-other made place i f None n = refl
set-other made place i f (Some x) n = slice_get-set_other made place i (f x) n

pub record IsOut (made : List Session) (place : ℕ) : Type 0 where
  pub one : Session
  pub there : slice_get made place ≡ Some one
  pub out : one.holding ≡ holding.Nobody → ⊥

-- another session changes, or this one is out behind the change
out-other : (made : List Session) (place i : ℕ) (f : Session → Session) → (place ≡ i → ⊥) → IsOut made i → IsOut (with_session made place f) i
out-other made place i f n h = record { one = h.one; there = set-other made place i f (slice_get made place) n ∙ h.there; out = h.out }

out-set : (made : List Session) (place : ℕ) (f : Session → Session) (x : Session) → slice_get made place ≡ Some x → ((y : Session) → (f y).holding ≡ holding.Nobody → ⊥) →
    IsOut (with_session made place f) place
out-set made place f x there n = record { one = f x; there = set-same made place f (slice_get made place) refl ∙ ap (λ o. option_map f o) there; out = n x }

out-kept : (made : List Session) (place i : ℕ) (f : Session → Session) → ((y : Session) → (f y).holding ≡ holding.Nobody → ⊥) → IsOut made i → IsOut (with_session made place f) i
out-kept made place i f n h = elim (eqb_tells place i) [
  | inl w ↦ subst (λ k. IsOut (with_session made place f) k) w.1 (out-set made place f h.one (subst (λ k. slice_get made k ≡ Some h.one) (sym w.1) h.there) n)
  | inr w ↦ out-other made place i f w.1 h
]

pub slice_get-front : {A : Type 0} (xs ys : List A) (i : ℕ) (x : A) → slice_get xs i ≡ Some x → slice_get (xs ++ ys) i ≡ Some x
slice_get-front [] ys i x e = absurd (cc)
slice_get-front (z ∷ zs) ys zero x e = e
slice_get-front (z ∷ zs) ys (suc i) x e = slice_get-front zs ys i x e

pub slice_get-last : {A : Type 0} (xs : List A) (y : A) → slice_get (xs ++ y ∷ []) (length xs) ≡ Some y
slice_get-last [] y = refl
slice_get-last (x ∷ xs) y = slice_get-last xs y

pub take-front : {A : Type 0} (xs ys : List A) → take (length xs) (xs ++ ys) ≡ xs
take-front [] ys = refl
take-front (x ∷ xs) ys = ap (λ zs. x ∷ zs) (take-front xs ys)

-- ---- The sessions behind an entry

by-leads : (moment : ℕ) (s t : Sessions) (o : Option SessEntry) → nothing_owed t ≡ state_after (next_place sessions_judge) (nothing_owed s) (of_sessions moment o) →
    t ≡ sessions_by moment o s
by-leads moment s t None e = ap (λ (p : Place Sessions SessEntry). p.state) e
by-leads moment s t (Some x) e = ap (λ (p : Place Sessions SessEntry). p.state) e

pub sessions-after : (client : Client) (p : Point) (t : Timed Fact) → StandsAt client p t →
    (point_after client p t).state.sessions ≡ sessions_by t.at (session_step p.state t.what) p.state.sessions
sessions-after client p t s =
    by-leads t.at p.state.sessions (point_after client p t).state.sessions (session_step p.state t.what) (session-step-leads client p t s).to

plain-step : (w : ClientState) (f : Fact) → is_plain f ≡ true → session_step w f ≡ None
plain-step w (fact.Leased op place lsid fresh) q = absurd (cc)
plain-step w (fact.Drew op number) q = absurd (cc)
plain-step w (fact.Returned op dirty ks) q = absurd (cc)
plain-step w (fact.Finished op outcome) q = refl
plain-step w f q = refl

-- ---- What a law of sessions says of each lease

abbrev pub OneHolder : Type 0
OneHolder = (ts : List (Timed SessEntry)) → IsHistory ts → (k place : ℕ) (t : Timed SessEntry) → slice_get ts k ≡ Some t → leases place t.what ≡ true →
    IsHeldByNobody (place_behind sessions_judge no_sessions (take k ts)).state.made place

lease-free : OneHolder → (client : Client) (xs : List (Timed Fact)) (t : Timed Fact) → Further client xs t → (e : SessEntry) (place : ℕ) →
    session_step (point_behind client xs).state t.what ≡ Some e → leases place e ≡ true → IsHeldByNobody (point_behind client xs).state.sessions.made place
lease-free law client xs t f e place step is =
    let part = session_part client xs in
    let x : Timed SessEntry = record { at = t.at; what = e } in
    let all : session_part client (xs ++ t ∷ []) ≡ part ++ x ∷ [] =
    told_from-more client session_tells (beginning client) xs t ∙ ap (λ o. part ++ of_sessions t.at o) step in
    let h : IsHistory (part ++ x ∷ []) = subst IsHistory all (session-leads client (xs ++ t ∷ []) f.all).legal in
    let free = law (part ++ x ∷ []) h (length part) place x (slice_get-last part x) is in
    subst (λ (p : Place Sessions SessEntry). IsHeldByNobody p.state.made place) (sym (session-leads client xs f.front).to)
    (subst (λ ys. IsHeldByNobody (place_behind sessions_judge no_sessions ys).state.made place) (take-front part (x ∷ [])) free)

-- ---- Along a trail

-- which session each command has
abbrev pub Has : Type 0
Has = ℕ → Option (Option ℕ)

pub record Held (r : Has) (made : List Session) : Type 0 where
  pub one : (a b place : ℕ) → r a ≡ Some (Some place) → r b ≡ Some (Some place) → a ≡ b
  pub out : (a place : ℕ) → r a ≡ Some (Some place) → IsOut made place

held-same : (r n : Has) (made more : List Session) → ((op : ℕ) → n op ≡ r op) → ((place : ℕ) → IsOut made place → IsOut more place) → Held r made → Held n more
held-same r n made more same outs h = record {
  one = λ a b place x y. h.one a b place (sym (same a) ∙ x) (sym (same b) ∙ y);
  out = λ a place x. outs place (h.out a place (sym (same a) ∙ x));
}

-- a draw
drew-out : (moment : ℕ) (number : ℤ) (s : Sessions) (o : Option ℕ) (i : ℕ) → IsOut s.made i → IsOut (sessions_by moment (option_map (λ place. session.Drew place number) o) s).made i
drew-out moment number s None i h = h
drew-out moment number s (Some place) i h = out-kept s.made place i (λ x. record x { number = number; holding = holding.Drawn }) (λ y e. absurd (cc)) h

-- a return: what the command has is nobody's
returned-out : (r : Has) (s : Sessions) (moment k : ℕ) (dirty keeps : Bool) (o : Option ℕ) → r k ≡ Some o → Held r s.made →
    (a place : ℕ) → r a ≡ Some (Some place) → (k ≡ a → ⊥) → IsOut (sessions_by moment (option_map (λ p. session.Returned p dirty keeps) o) s).made place
returned-out r s moment k dirty keeps None at h a place x n = h.out a place x
returned-out r s moment k dirty keeps (Some own) at h a place x n =
    out-other s.made own place (λ y. record y { holding = holding.Nobody })
    (λ same. n (h.one k a place (at ∙ ap (λ y. Some (Some y)) same) x)) (h.out a place x)

held-returned : (r n : Has) (s : Sessions) (more : List Session) (k : ℕ) → n k ≡ Some None → ((op : ℕ) → (k ≡ op → ⊥) → n op ≡ r op) →
    ((a place : ℕ) → r a ≡ Some (Some place) → (k ≡ a → ⊥) → IsOut more place) → Held r s.made → Held n more
held-returned r n s more k own others outs h = record {
  one = λ a b place x y. h.one a b place (sym (others a (away a place x)) ∙ x) (sym (others b (away b place y)) ∙ y);
  out = λ a place x. outs a place (sym (others a (away a place x)) ∙ x) (away a place x);
} where
  away : (a place : ℕ) → n a ≡ Some (Some place) → k ≡ a → ⊥
  away a place x e = let y : n k ≡ Some (Some place) = subst (λ j. n j ≡ Some (Some place)) (sym e) x in absurd (cc)

-- a lease
leased-made : (place : ℕ) (lsid : Lsid) (fresh : Bool) (minutes : ℤ) (s : Sessions) (moment : ℕ) → MayStand s moment (lease_step place lsid fresh minutes) →
    IsIdAt s place lsid fresh → IsOut (after s moment (lease_step place lsid fresh minutes)).made place
leased-made place lsid true minutes s moment m id =
    let new : Session = record { lsid = lsid; number = pos 0; holding = holding.Leased } in
    record {
      one = new;
      there = subst (λ k. slice_get (s.made ++ new ∷ []) k ≡ Some new) (sym m.1) (slice_get-last s.made new);
      out = λ e. absurd (cc);
    }
leased-made place lsid false minutes s moment m id =
    out-set s.made place (λ x. record x { holding = holding.Leased }) id.0 id.1 (λ y e. absurd (cc))

leased-others : (place : ℕ) (lsid : Lsid) (fresh : Bool) (minutes : ℤ) (s : Sessions) (moment i : ℕ) → IsOut s.made i →
    IsOut (after s moment (lease_step place lsid fresh minutes)).made i
leased-others place lsid true minutes s moment i h =
    record { one = h.one; there = slice_get-front s.made (record { lsid = lsid; number = pos 0; holding = holding.Leased } ∷ []) i h.one h.there; out = h.out }
leased-others place lsid false minutes s moment i h = out-kept s.made place i (λ x. record x { holding = holding.Leased }) (λ y e. absurd (cc)) h

leases-it : (place : ℕ) (lsid : Lsid) (fresh : Bool) (minutes : ℤ) → leases place (lease_step place lsid fresh minutes) ≡ true
leases-it place lsid true minutes = eq-eqb place place refl
leases-it place lsid false minutes = eq-eqb place place refl

record Leases (s : Sessions) (moment place : ℕ) (lsid : Lsid) (fresh : Bool) (o : Option ℤ) : Type 0 where
  pub minutes : ℤ
  pub step : option_map (lease_step place lsid fresh) o ≡ Some (lease_step place lsid fresh minutes)
  pub may : MayStand s moment (lease_step place lsid fresh minutes)

lease-of : (w : ClientState) (moment place : ℕ) (lsid : Lsid) (fresh : Bool) (o : Option ℤ) → SessionAllows w moment (option_map (lease_step place lsid fresh) o) →
    Leases w.sessions moment place lsid fresh o
lease-of w moment place lsid fresh None a = absurd a
lease-of w moment place lsid fresh (Some m) a = record { minutes = m; step = refl; may = a }

held-leased : (r n : Has) (made more : List Session) (k place : ℕ) → n k ≡ Some (Some place) → ((op : ℕ) → (k ≡ op → ⊥) → n op ≡ r op) →
    IsHeldByNobody made place → IsOut more place → ((i : ℕ) → IsOut made i → IsOut more i) → Held r made → Held n more
held-leased r n made more k place own others free new outs h = record {
  one = λ a b p x y. elim (eqb_tells k a) [
    | inl u ↦ elim (eqb_tells k b) [
      | inl v ↦ sym u.1 ∙ v.1
      | inr v ↦ absurd (clash a b p u.1 v.1 x y)
    ]
    | inr u ↦ elim (eqb_tells k b) [
      | inl v ↦ absurd (clash b a p v.1 u.1 y x)
      | inr v ↦ h.one a b p (sym (others a u.1) ∙ x) (sym (others b v.1) ∙ y)
    ]
  ];
  out = λ a p x. elim (eqb_tells k a) [
    | inl u ↦ subst (IsOut more) (its a p u.1 x) new
    | inr u ↦ outs p (h.out a p (sym (others a u.1) ∙ x))
  ];
} where
  its : (a p : ℕ) → k ≡ a → n a ≡ Some (Some p) → place ≡ p
  its a p e x = let y : n k ≡ Some (Some p) = subst (λ j. n j ≡ Some (Some p)) (sym e) x in cc

  clash : (a b p : ℕ) → k ≡ a → (k ≡ b → ⊥) → n a ≡ Some (Some p) → n b ≡ Some (Some p) → ⊥
  clash a b p e d x y =
      let o = h.out b p (sym (others b d) ∙ y) in
      o.out (free o.one (subst (λ j. slice_get made j ≡ Some o.one) (sym (its a p e x)) o.there))

-- ---- The step

own-read : (cs : List CommandState) (k : ℕ) (g : CommandState → CommandState) (c : CommandState) → slice_get cs k ≡ Some c → read sess (changed cs k g) k ≡ Some (sess (g c))
own-read cs k g c there = ap (λ o. option_map sess o) (changed-same cs k g ∙ ap (λ o. option_map g o) there)

other-read : (cs : List CommandState) (k op : ℕ) (g : CommandState → CommandState) → (k ≡ op → ⊥) → read sess (changed cs k g) op ≡ read sess cs op
other-read cs k op g n = ap (λ o. option_map sess o) (changed-other cs k op g n)

pub held-step : (w : ClientState) (k : ℕ) (f : Fact) (c : CommandState) → slice_get w.commands k ≡ Some c → session_held w k f ≡ session_step_of c f
held-step w k f c there = ap (λ o. option_and_then (λ x. session_step_of x f) o) there

abbrev pub Holds : ClientState → Type 0
Holds w = Held (read sess w.commands) w.sessions.made

holds-step : OneHolder → (client : Client) (xs : List (Timed Fact)) (moment : ℕ) (f : Fact) → Further client xs (record { at = moment; what = f }) → Holds (point_behind client xs).state →
    Holds (client_after client moment (point_behind client xs).state f)
holds-step law client xs moment (fact.Leased k place lsid fresh) f h =
    let w = (point_behind client xs).state in
    let t : Timed Fact = record { at = moment; what = fact.Leased k place lsid fresh } in
    let m = f.stands.rule in
    let l = lease-of w moment place lsid fresh (minutes_needed m.running) m.session in
    let step : session_held w k t.what ≡ Some (lease_step place lsid fresh l.minutes) = held-step w k t.what m.running m.there ∙ l.step in
    let g = λ (c : CommandState). record c { session = Some place } in
    let made : (client_after client moment w t.what).sessions.made ≡ (after w.sessions moment (lease_step place lsid fresh l.minutes)).made =
    ap (λ (s : Sessions). s.made) (sessions-after client (point_behind client xs) t f.stands ∙ ap (λ o. sessions_by moment o w.sessions) step) in
    subst (Held (read sess (client_after client moment w t.what).commands)) (sym made)
    (held-leased (read sess w.commands) (read sess (client_after client moment w t.what).commands) w.sessions.made (after w.sessions moment (lease_step place lsid fresh l.minutes)).made k place
    (own-read w.commands k g m.running m.there) (λ op n. other-read w.commands k op g n)
    (lease-free law client xs t f (lease_step place lsid fresh l.minutes) place step (leases-it place lsid fresh l.minutes))
    (leased-made place lsid fresh l.minutes w.sessions moment l.may m.id) (leased-others place lsid fresh l.minutes w.sessions moment) h)
holds-step law client xs moment (fact.Drew k number) f h =
    let w = (point_behind client xs).state in
    let t : Timed Fact = record { at = moment; what = fact.Drew k number } in
    let m = f.stands.rule in
    let made : (client_after client moment w t.what).sessions.made ≡ (sessions_by moment (option_map (λ place. session.Drew place number) m.running.session) w.sessions).made =
    ap (λ (s : Sessions). s.made) (sessions-after client (point_behind client xs) t f.stands ∙ ap (λ o. sessions_by moment o w.sessions) (held-step w k t.what m.running m.there)) in
    held-same (read sess w.commands) (read sess (client_after client moment w t.what).commands) w.sessions.made (client_after client moment w t.what).sessions.made
    (λ op. kept sess w.commands k op (λ c. record c { number = Some number }) (λ c. refl))
    (λ place i. subst (λ ys. IsOut ys place) (sym made) (drew-out moment number w.sessions m.running.session place i)) h
holds-step law client xs moment (fact.Returned k dirty keeps) f h =
    let w = (point_behind client xs).state in
    let t : Timed Fact = record { at = moment; what = fact.Returned k dirty keeps } in
    let m = f.stands.rule in
    let g = λ (c : CommandState). record c { session = None } in
    let made : (client_after client moment w t.what).sessions.made ≡ (sessions_by moment (option_map (λ place. session.Returned place dirty keeps) m.running.session) w.sessions).made =
    ap (λ (s : Sessions). s.made) (sessions-after client (point_behind client xs) t f.stands ∙ ap (λ o. sessions_by moment o w.sessions) (held-step w k t.what m.running m.there)) in
    held-returned (read sess w.commands) (read sess (client_after client moment w t.what).commands) w.sessions (client_after client moment w t.what).sessions.made k
    (own-read w.commands k g m.running m.there) (λ op n. other-read w.commands k op g n)
    (λ a place x n. subst (λ ys. IsOut ys place) (sym made)
    (returned-out (read sess w.commands) w.sessions moment k dirty keeps m.running.session (ap (λ o. option_map sess o) m.there) h a place x n)) h
holds-step law client xs moment (fact.Finished k outcome) f h =
    let w = (point_behind client xs).state in
    let t : Timed Fact = record { at = moment; what = fact.Finished k outcome } in
    held-same (read sess w.commands) (read sess (client_after client moment w t.what).commands) w.sessions.made (client_after client moment w t.what).sessions.made
    (λ op. kept sess w.commands k op finished (λ c. refl))
    (λ place i. subst (λ (s : Sessions). IsOut s.made place) (sym (sessions-after client (point_behind client xs) t f.stands)) i) h
holds-step law client xs moment e f h =
    let w = (point_behind client xs).state in
    let t : Timed Fact = record { at = moment; what = e } in
    held-same (read sess w.commands) (read sess (client_after client moment w e).commands) w.sessions.made (client_after client moment w e).sessions.made
    (λ op. plain-kept sess Apart-sess client moment w e op refl)
    (λ place i. subst (λ (s : Sessions). IsOut s.made place) (sym (sessions-after client (point_behind client xs) t f.stands)) i) h

holds-begins : (client : Client) → Holds (beginning client).state
holds-begins client = record { one = λ a b place x y. absurd (none a place x); out = λ a place x. absurd (none a place x) } where
  no : (o : Option Command) (place : ℕ) → option_map sess (option_map fresh_command o) ≡ Some (Some place) → ⊥
  no None place e = absurd (cc)
  no (Some c) place e = absurd (cc)

  none : (a place : ℕ) → read sess (map fresh_command client.commands) a ≡ Some (Some place) → ⊥
  none a place x = no (slice_get client.commands a) place (sym (ap (λ o. option_map sess o) (slice_get-map fresh_command client.commands a)) ∙ x)

pub holds : OneHolder → (client : Client) (ts : List (Timed Fact)) → AreLegal client ts → Holds (point_behind client ts).state
holds law client ts l =
    along client (λ p. Holds p.state) (λ xs t f h. holds-step law client xs t.at t.what f h) (holds-begins client) ts l

pub one-holder : (w : ClientState) (a b : ℕ) (x y : CommandState) (place : ℕ) → Holds w → slice_get w.commands a ≡ Some x → slice_get w.commands b ≡ Some y →
    x.session ≡ Some place → y.session ≡ Some place → a ≡ b
one-holder w a b x y place h i j e f =
    h.one a b place (ap (λ o. option_map sess o) i ∙ ap (λ s. Some s) e) (ap (λ o. option_map sess o) j ∙ ap (λ s. Some s) f)
