-- Along a legal trail each pool has the commands as they are.
use Rattle.std.proofs.Common.{◌≡◌, ◌≤◌, ◌<◌, ℕ, ◌+◌, Bool, true, false, cond, eqb, List, [], ◌∷◌, ◌++◌, map, Option, None, Some, refl, sym, ap, ◌∙◌, subst, arith, ◌⊎◌, inl, inr}
use Rattle.std.specs.Prelude.{slice_get, ◌&&◌}
use Rattle.std.specs.Option.{option_map, option_and_then}
use Rattle.std.proofs.lemmas.Bool.{eq-eqb}
use Rattle.std.proofs.lemmas.Bool.Decides.{eqb_tells}
use Rattle.std.proofs.lemmas.Option.{slice_get-map}
use Rattle.std.proofs.lemmas.Iterator.Adapters.{option_map_id}
use Rattle.entry_judge.specs.declared.timed.Timed.{Timed}
use Rattle.entry_judge.specs.Groups.{Place, Stands, next_place}
use Rattle.pool_book.specs.Entries.{CheckOutFailure, PoolEntry}
use Rattle.pool_book.specs.Entries as pool
use Rattle.pool_book.specs.Judge.{pool_judge, IsTrail, pool_behind}
use Rattle.pool_book.specs.Pool.{Pool}
use Rattle.pool_book.specs.Sound.{times_of}
use Rattle.pool_book.specs.declared.rules.PoolRules.{PoolRules}
use Rattle.pool_book.specs.declared.connections.Held.{Held}
use Rattle.cmd_build.specs.declared.command.Command.{Command}
use Rattle.write_retry.specs.declared.events.Unsent.{Unsent}
use Rattle.write_retry.specs.declared.events.Unsent.TheVariants as unsent
use Rattle.desk_trail.specs.Clients.{Client, pool_rules}
use Rattle.desk_trail.specs.Facts.{Fact}
use Rattle.desk_trail.specs.Facts as fact
use Rattle.desk_trail.specs.Holds.{DialsAt, HasAt, IsHeldBy, WaitsAt}
use Rattle.desk_trail.specs.Legal.{AreLegal, MayStand, Point, beginning, point_after, point_behind}
use Rattle.desk_trail.specs.Parts.{pool_part}
use Rattle.desk_trail.specs.Pools.{PoolAllows, at_host, dials_by, has_by, lost_with, not_lent_with, pool_step, ticket_dialling, ticket_having, ticket_with}
use Rattle.desk_trail.specs.States.{CheckOut, ClientState, CommandState, Dials, Has, Nothing, ServerState, Waits, fresh_command}
use Rattle.desk_trail.proofs.CheckOutLemmas.{Enters, Frees, HoldsIn, Matched, Moves, Tick, acts_as, dials-on, has-on, holds-on, matched-acting, matched-alone, matched-on, moved, moved_by, out-step, out_at, out_in, was}
use Rattle.desk_trail.proofs.HeldLemmas.{AllOk, IsDialling, IsOnce, IsWaiting, dialled-behind, entered-behind, lent-behind}
use Rattle.desk_trail.proofs.PartLemmas.{Leads, along}
use Rattle.desk_trail.proofs.PoolLemmas.{PoolLeads, pool-leads, pool-step-leads, pool_at, pool_or}

-- ---- How an entry of a pool moves the pools

abbrev PoolTo : Place Pool PoolEntry → List (Timed PoolEntry) → Place Pool PoolEntry → Type 0
PoolTo s es q = Leads (Stands pool_judge) (next_place pool_judge) s es q

own-place : (b : Bool) (t : Timed PoolEntry) (s q : Place Pool PoolEntry) → b ≡ true → PoolTo s (cond b (t ∷ []) []) q →
    Stands pool_judge s t × (q ≡ next_place pool_judge s t)
own-place true t s q e l = (l.legal.0, l.to)
own-place false t s q e l = absurd (cc)

other-place : (b : Bool) (t : Timed PoolEntry) (s q : Place Pool PoolEntry) → b ≡ false → PoolTo s (cond b (t ∷ []) []) q → q ≡ s
other-place true t s q e l = absurd (cc)
other-place false t s q e l = l.to

no-eqb : (a b : ℕ) → (a ≡ b → ⊥) → eqb a b ≡ false
no-eqb a b n = elim (eqb_tells a b) [ inl w ↦ absurd (n w.1) | inr w ↦ w.0 ]

-- what is known of the client ahead of an entry and behind it
pub record Stepped (client : Client) (p : Point) (moment : ℕ) (f : Fact) (v : ClientState) : Type 0 where
  pub leads : (host : ℕ) → PoolLeads client host moment p.state (pool_step p.state f) v
  pub outs : (op : ℕ) → out_at v.commands op ≡ option_map (moved f op) (out_at p.state.commands op)
  pub once : (host : ℕ) → IsOnce (pool_at client v.servers host).state

abbrev pub Meets : Client → ClientState → Type 0
Meets client w = Matched (out_at w.commands) (pool_at client w.servers)

moves-of : (client : Client) (p : Point) (moment : ℕ) (f : Fact) (v : ClientState) (x : ℕ) (e : PoolEntry) → Stepped client p moment f v →
    pool_step p.state f ≡ Some (x, e) → Moves (pool_at client p.state.servers) (pool_at client v.servers) x moment e
moves-of client p moment f v x e s told =
    let t : Timed PoolEntry = record { at = moment; what = e } in
    let to = λ (host : ℕ). subst (λ o. PoolLeads client host moment p.state o v) told (s.leads host) in
    let own = own-place (eqb x x) t (pool_at client p.state.servers x) (pool_at client v.servers x) (eq-eqb x x refl) (to x) in
    record {
      stands = own.0;
      here = own.1;
      others = λ host n. other-place (eqb x host) t (pool_at client p.state.servers host) (pool_at client v.servers host) (no-eqb x host n) (to host);
      once = s.once x;
    }

-- ---- What an entry says of its command

pub record Named (g : CheckOut → Option ℕ) (mk : ℕ → PoolEntry) (host : ℕ) (o : Option CheckOut) : Type 0 where
  pub out : CheckOut
  pub there : o ≡ Some out
  pub number : ℕ
  pub has : g out ≡ Some number
  pub told : at_host host (option_map mk (option_and_then g o)) ≡ Some (host, mk number)

pub named : (g : CheckOut → Option ℕ) (mk : ℕ → PoolEntry) (w : ClientState) (moment host : ℕ) (o : Option CheckOut) →
    PoolAllows w moment (at_host host (option_map mk (option_and_then g o))) → Named g mk host o
named g mk w moment host None a = absurd a
named g mk w moment host (Some h) a = by (g h) refl a where
  by : (r : Option ℕ) → g h ≡ r → PoolAllows w moment (at_host host (option_map mk r)) → Named g mk host (Some h)
  by None e b = absurd b
  by (Some n) e b = record { out = h; there = refl; number = n; has = e; told = ap (λ r. at_host host (option_map mk r)) e }

record Refused (host : ℕ) (why : Unsent) (o : Option CheckOut) : Type 0 where
  pub out : CheckOut
  pub there : o ≡ Some out
  pub entry : PoolEntry
  pub says : not_lent_with host why out ≡ Some entry
  pub told : at_host host (option_and_then (not_lent_with host why) o) ≡ Some (host, entry)

refused : (w : ClientState) (moment host : ℕ) (why : Unsent) (o : Option CheckOut) →
    PoolAllows w moment (at_host host (option_and_then (not_lent_with host why) o)) → Refused host why o
refused w moment host why None a = absurd a
refused w moment host why (Some h) a = by (not_lent_with host why h) refl a where
  by : (r : Option PoolEntry) → not_lent_with host why h ≡ r → PoolAllows w moment (at_host host r) → Refused host why (Some h)
  by None e b = absurd b
  by (Some n) e b = record { out = h; there = refl; entry = n; says = e; told = ap (λ r. at_host host r) e }

-- why there is none, and of which ticket
record OfTicket (x : ℕ) (h : CheckOut) (e : PoolEntry) : Type 0 where
  pub number : ℕ
  pub why : CheckOutFailure
  pub is : e ≡ pool.NotLent number why
  pub has : ticket_with x h ≡ Some number

by-ticket : (x : ℕ) (why : CheckOutFailure) (h : CheckOut) (e : PoolEntry) (o : Option ℕ) → ticket_with x h ≡ o → option_map (λ t. pool.NotLent t why) o ≡ Some e → OfTicket x h e
by-ticket x why h e None k s = absurd (cc)
by-ticket x why h e (Some n) k s = record { number = n; why = why; is = let same : e ≡ pool.NotLent n why = cc in same; has = k }

by-lost : (x : ℕ) (h : CheckOut) (e : PoolEntry) → lost_with x h ≡ Some e → OfTicket x h e
by-lost x Nothing e s = absurd (cc)
by-lost x (Waits host ticket) e s = absurd (cc)
by-lost x (Has host ticket conn) e s = absurd (cc)
by-lost x (Dials host ticket conn) e s =
    elim (eqb_tells host x) [
      | inl w ↦ record {
        number = ticket;
        why = pool.Lost conn;
        is = let s' : Some (pool.NotLent ticket (pool.Lost conn)) ≡ Some e = rw w.0 at s in let same : e ≡ pool.NotLent ticket (pool.Lost conn) = cc in same;
        has = rw w.0 refl;
      }
      | inr w ↦ absurd (let s' : None ≡ Some e = rw w.0 at s in cc)
    ]

of-ticket : (x : ℕ) (why : Unsent) (h : CheckOut) (e : PoolEntry) → not_lent_with x why h ≡ Some e → OfTicket x h e
of-ticket x unsent.PoolLate h e s = by-ticket x pool.Late h e (ticket_with x h) refl s
of-ticket x (unsent.PoolCleared generation) h e s = by-ticket x (pool.Cleared generation) h e (ticket_with x h) refl s
of-ticket x (unsent.PoolClosed host) h e s =
    elim (eqb host x) as (λ b. cond b (option_map (λ t. pool.NotLent t pool.Closed) (ticket_with x h)) None ≡ Some e → OfTicket x h e) [
      | true ↦ λ k. by-ticket x pool.Closed h e (ticket_with x h) refl k
      | false ↦ λ k. absurd (cc)
    ] s
of-ticket x (unsent.Dial bad) h e s = by-lost x h e s
of-ticket x (unsent.Greeting code) h e s = by-lost x h e s
of-ticket x (unsent.TooLarge size most) h e s = absurd (cc)

having : (x n : ℕ) (h : CheckOut) (ticket : ℕ) → ticket_having x n h ≡ Some ticket → ticket_with x h ≡ Some ticket
having x n Nothing ticket s = absurd (cc)
having x n (Waits host t) ticket s = absurd (cc)
having x n (Dials host t conn) ticket s = absurd (cc)
having x n (Has host t conn) ticket s =
    elim (eqb host x) as (λ b. cond (b && eqb conn n) (Some t) None ≡ Some ticket → cond b (Some t) None ≡ Some ticket) [
      | true ↦ λ k. elim (eqb conn n) as (λ b. cond b (Some t) None ≡ Some ticket → Some t ≡ Some ticket) [ true ↦ λ j. j | false ↦ λ j. absurd (cc) ] k
      | false ↦ λ k. absurd (cc)
    ] s

-- ---- What the command becomes

same-ticket : (host x ticket n : ℕ) → cond (eqb host x) (Some ticket) None ≡ Some n → (host ≡ x) × (ticket ≡ n)
same-ticket host x ticket n e = elim (eqb_tells host x) [
  | inl w ↦ (w.1, let s : Some ticket ≡ Some n = rw w.0 at e in let same : ticket ≡ n = cc in same)
  | inr w ↦ absurd (let s : None ≡ Some n = rw w.0 at e in cc)
]

lent-becomes : (outs : ℕ → Option CheckOut) (q r : ℕ → Place Pool PoolEntry) (x moment n conn : ℕ) → Moves q r x moment (pool.Lent n conn) → Matched outs q →
    (h : CheckOut) → ticket_with x h ≡ Some n → HoldsIn q h → HoldsIn r (has_by conn h)
lent-becomes outs q r x moment n conn m k Nothing t i = absurd (cc)
lent-becomes outs q r x moment n conn m k (Waits host ticket) t i =
    let s = same-ticket host x ticket n t in
    let here : IsHeldBy (r x).state.lent conn n = subst (λ (p : Place Pool PoolEntry). IsHeldBy p.state.lent conn n) (sym m.here)
    (lent-behind (q x).state (q x).owed moment n conn m.stands (k.ok x) (subst (λ (p : Place Pool PoolEntry). IsOnce p.state) m.here m.once)) in
    subst (λ y. IsHeldBy (r y).state.lent conn ticket) (sym s.0) (subst (λ y. IsHeldBy (r x).state.lent conn y) (sym s.1) here)
lent-becomes outs q r x moment n conn m k (Dials host ticket c) t i =
    let s = same-ticket host x ticket n t in
    let here : IsHeldBy (r x).state.lent conn n = subst (λ (p : Place Pool PoolEntry). IsHeldBy p.state.lent conn n) (sym m.here)
    (lent-behind (q x).state (q x).owed moment n conn m.stands (k.ok x) (subst (λ (p : Place Pool PoolEntry). IsOnce p.state) m.here m.once)) in
    subst (λ y. IsHeldBy (r y).state.lent conn ticket) (sym s.0) (subst (λ y. IsHeldBy (r x).state.lent conn y) (sym s.1) here)
lent-becomes outs q r x moment n conn m k (Has host ticket c) t i = has-on q r x moment (pool.Lent n conn) m host ticket c (λ _. refl) i

dialled-becomes : (outs : ℕ → Option CheckOut) (q r : ℕ → Place Pool PoolEntry) (x moment n conn : ℕ) → Moves q r x moment (pool.Dialled n conn) → Matched outs q →
    (h : CheckOut) → ticket_with x h ≡ Some n → HoldsIn q h → HoldsIn r (dials_by conn h)
dialled-becomes outs q r x moment n conn m k Nothing t i = absurd (cc)
dialled-becomes outs q r x moment n conn m k (Waits host ticket) t i =
    let s = same-ticket host x ticket n t in
    let here : IsHeldBy (r x).state.pending conn n = subst (λ (p : Place Pool PoolEntry). IsHeldBy p.state.pending conn n) (sym m.here)
    (dialled-behind (q x).state (q x).owed moment n conn m.stands (k.ok x) (subst (λ (p : Place Pool PoolEntry). IsOnce p.state) m.here m.once)) in
    inl (subst (λ y. IsHeldBy (r y).state.pending conn ticket) (sym s.0) (subst (λ y. IsHeldBy (r x).state.pending conn y) (sym s.1) here))
dialled-becomes outs q r x moment n conn m k (Dials host ticket c) t i = dials-on q r x moment (pool.Dialled n conn) m host ticket c (λ _. refl) i
dialled-becomes outs q r x moment n conn m k (Has host ticket c) t i = has-on q r x moment (pool.Dialled n conn) m host ticket c (λ _. refl) i

keeps-has : (conn : ℕ) (h : CheckOut) (host t : ℕ) → ticket_with host (has_by conn h) ≡ Some t → ticket_with host h ≡ Some t
keeps-has conn Nothing host t e = e
keeps-has conn (Waits x ticket) host t e = e
keeps-has conn (Dials x ticket c) host t e = e
keeps-has conn (Has x ticket c) host t e = e

keeps-dials : (conn : ℕ) (h : CheckOut) (host t : ℕ) → ticket_with host (dials_by conn h) ≡ Some t → ticket_with host h ≡ Some t
keeps-dials conn Nothing host t e = e
keeps-dials conn (Waits x ticket) host t e = e
keeps-dials conn (Dials x ticket c) host t e = e
keeps-dials conn (Has x ticket c) host t e = e

-- ---- Each kind of entry

still : (client : Client) (p : Point) (moment : ℕ) (f : Fact) (v : ClientState) → Stepped client p moment f v → pool_step p.state f ≡ None →
    ((op : ℕ) → acts_as f op ≡ false) → Meets client p.state → Meets client v
still client p moment f v s none idle h =
    record {
      once = λ a b host ticket x y. h.once a b host ticket (old a host ticket x) (old b host ticket y);
      below = λ op host ticket x. subst (λ (q : Place Pool PoolEntry). ticket < q.state.entered) (sym (same-place host)) (h.below op host ticket (old op host ticket x));
      holds = λ op k there. holds-same k (h.holds op k (sym (same-out op) ∙ there));
      ok = λ host. subst (λ (q : Place Pool PoolEntry). AllOk q.state q.owed) (sym (same-place host)) (h.ok host);
    } where
      same-out : (op : ℕ) → out_at v.commands op ≡ out_at p.state.commands op
      same-out op =
          s.outs op ∙ subst (λ b. option_map (λ h. cond b (moved_by f h) h) (out_at p.state.commands op) ≡ out_at p.state.commands op) (sym (idle op)) (option_map_id (out_at p.state.commands op))

      same-place : (host : ℕ) → pool_at client v.servers host ≡ pool_at client p.state.servers host
      same-place host = (subst (λ o. PoolLeads client host moment p.state o v) none (s.leads host)).to

      old : (op host ticket : ℕ) → Tick (out_at v.commands) op host ticket → Tick (out_at p.state.commands) op host ticket
      old op host ticket x = record { out = x.out; there = sym (same-out op) ∙ x.there; has = x.has }

      holds-same : (k : CheckOut) → HoldsIn (pool_at client p.state.servers) k → HoldsIn (pool_at client v.servers) k
      holds-same Nothing i = tt
      holds-same (Waits host ticket) i = subst (λ (q : Place Pool PoolEntry). IsWaiting q.state ticket) (sym (same-place host)) i
      holds-same (Dials host ticket conn) i = subst (λ (q : Place Pool PoolEntry). IsDialling q.state q.owed conn ticket) (sym (same-place host)) i
      holds-same (Has host ticket conn) i = subst (λ (q : Place Pool PoolEntry). IsHeldBy q.state.lent conn ticket) (sym (same-place host)) i

alone : (client : Client) (p : Point) (moment : ℕ) (f : Fact) (v : ClientState) (x : ℕ) (e : PoolEntry) → Stepped client p moment f v → pool_step p.state f ≡ Some (x, e) →
    ((op : ℕ) → acts_as f op ≡ false) → ((ticket : ℕ) → Frees ticket e) → Meets client p.state → Meets client v
alone client p moment f v x e s told idle frees h =
    matched-alone (out_at p.state.commands) (out_at v.commands) (pool_at client p.state.servers) (pool_at client v.servers) x moment e
    (moves-of client p moment f v x e s told) h
    (λ op. s.outs op ∙ subst (λ b. option_map (λ h. cond b (moved_by f h) h) (out_at p.state.commands op) ≡ out_at p.state.commands op) (sym (idle op)) (option_map_id (out_at p.state.commands op)))
    frees

lent : (client : Client) (p : Point) (moment op x conn : ℕ) (v : ClientState) → Stepped client p moment (fact.Lent op x conn) v →
    PoolAllows p.state moment (pool_step p.state (fact.Lent op x conn)) → Meets client p.state → Meets client v
lent client p moment op x conn v s a h =
    let n = named (ticket_with x) (λ t. pool.Lent t conn) p.state moment x (out_at p.state.commands op) a in
    let e = pool.Lent n.number conn in
    let q = pool_at client p.state.servers in
    let m = moves-of client p moment (fact.Lent op x conn) v x e s n.told in
    matched-acting (out_at p.state.commands) (out_at v.commands) q (pool_at client v.servers) (fact.Lent op x conn) x moment e m h s.outs
    (record {
      actor = op;
      ticket = n.number;
      tick = record { out = n.out; there = n.there; has = n.has };
      only = λ k. refl;
      frees = λ other d. let no : eqb n.number other ≡ false = no-eqb n.number other d in record { takes = no; pays = no; gives = refl };
      keeps = keeps-has conn;
      becomes = lent-becomes (out_at p.state.commands) q (pool_at client v.servers) x moment n.number conn m h n.out n.has (h.holds op n.out n.there);
    })

dialled : (client : Client) (p : Point) (moment op x conn : ℕ) (stream : Option ℕ) (v : ClientState) → Stepped client p moment (fact.Dialled op x conn stream) v →
    PoolAllows p.state moment (pool_step p.state (fact.Dialled op x conn stream)) → Meets client p.state → Meets client v
dialled client p moment op x conn stream v s a h =
    let n = named (ticket_with x) (λ t. pool.Dialled t conn) p.state moment x (out_at p.state.commands op) a in
    let e = pool.Dialled n.number conn in
    let q = pool_at client p.state.servers in
    let m = moves-of client p moment (fact.Dialled op x conn stream) v x e s n.told in
    matched-acting (out_at p.state.commands) (out_at v.commands) q (pool_at client v.servers) (fact.Dialled op x conn stream) x moment e m h s.outs
    (record {
      actor = op;
      ticket = n.number;
      tick = record { out = n.out; there = n.there; has = n.has };
      only = λ k. refl;
      frees = λ other d. let no : eqb n.number other ≡ false = no-eqb n.number other d in record { takes = no; pays = refl; gives = refl };
      keeps = keeps-dials conn;
      becomes = dialled-becomes (out_at p.state.commands) q (pool_at client v.servers) x moment n.number conn m h n.out n.has (h.holds op n.out n.there);
    })

not-lent : (client : Client) (p : Point) (moment op x : ℕ) (why : Unsent) (v : ClientState) → Stepped client p moment (fact.NotLent op x why) v →
    PoolAllows p.state moment (pool_step p.state (fact.NotLent op x why)) → Meets client p.state → Meets client v
not-lent client p moment op x why v s a h =
    let n = refused p.state moment x why (out_at p.state.commands op) a in
    let o = of-ticket x why n.out n.entry n.says in
    let e = pool.NotLent o.number o.why in
    let told : pool_step p.state (fact.NotLent op x why) ≡ Some (x, e) = n.told ∙ ap (λ y. Some (x, y)) o.is in
    let m = moves-of client p moment (fact.NotLent op x why) v x e s told in
    matched-acting (out_at p.state.commands) (out_at v.commands) (pool_at client p.state.servers) (pool_at client v.servers) (fact.NotLent op x why) x moment e m h s.outs
    (record {
      actor = op;
      ticket = o.number;
      tick = record { out = n.out; there = n.there; has = o.has };
      only = λ k. refl;
      frees = λ other d. let no : eqb o.number other ≡ false = no-eqb o.number other d in record { takes = no; pays = no; gives = refl };
      keeps = λ k host t g. absurd (cc);
      becomes = tt;
    })

checked-in : (client : Client) (p : Point) (moment op x conn : ℕ) (errored : Bool) (v : ClientState) → Stepped client p moment (fact.CheckedIn op x conn errored) v →
    PoolAllows p.state moment (pool_step p.state (fact.CheckedIn op x conn errored)) → Meets client p.state → Meets client v
checked-in client p moment op x conn errored v s a h =
    let n = named (ticket_having x conn) (λ t. pool.CheckedIn t conn errored) p.state moment x (out_at p.state.commands op) a in
    let e = pool.CheckedIn n.number conn errored in
    let m = moves-of client p moment (fact.CheckedIn op x conn errored) v x e s n.told in
    matched-acting (out_at p.state.commands) (out_at v.commands) (pool_at client p.state.servers) (pool_at client v.servers) (fact.CheckedIn op x conn errored) x moment e m h s.outs
    (record {
      actor = op;
      ticket = n.number;
      tick = record { out = n.out; there = n.there; has = having x conn n.out n.number n.has };
      only = λ k. refl;
      frees = λ other d. let no : eqb n.number other ≡ false = no-eqb n.number other d in record { takes = refl; pays = refl; gives = no };
      keeps = λ k host t g. absurd (cc);
      becomes = tt;
    })

record In (q r : ℕ → Place Pool PoolEntry) (x n : ℕ) : Type 0 where
  pub new : n ≡ (q x).state.entered
  pub counted : (r x).state.entered ≡ n + 1
  pub waits : IsWaiting (r x).state n

comes-in : (outs : ℕ → Option CheckOut) (q r : ℕ → Place Pool PoolEntry) (x moment n : ℕ) → Moves q r x moment (pool.Entered n) → Matched outs q → In q r x n
comes-in outs q r x moment n m h =
    let e = entered-behind (q x).state (q x).owed moment n m.stands (h.ok x) in
    record {
      new = e.new;
      counted = ap (λ (p : Place Pool PoolEntry). p.state.entered) m.here ∙ e.counted;
      waits = subst (λ (p : Place Pool PoolEntry). IsWaiting p.state n) (sym m.here) e.waits;
    }

matched-entered : (outs after : ℕ → Option CheckOut) (q r : ℕ → Place Pool PoolEntry) (op x moment n : ℕ) → Moves q r x moment (pool.Entered n) → Matched outs q →
    ((k : ℕ) → after k ≡ option_map (moved (fact.Entered op x n) k) (outs k)) → Matched after r
matched-entered outs after q r op x moment n m h moves =
    matched-on outs after q r x moment (pool.Entered n) op m h
    (λ k host ticket t. let w = was (moved (fact.Entered op x n) k) (outs k) (after k) t.out (moves k) t.there in
    ticks k host ticket w.0 w.1 (ap (ticket_with host) (sym w.2) ∙ t.has))
    (λ k y there. let w = was (moved (fact.Entered op x n) k) (outs k) (after k) y (moves k) there in subst (HoldsIn r) (sym w.2) (holds k w.0 w.1)) where
      i : In q r x n
      i = comes-in outs q r x moment n m h

      ticks : (k host ticket : ℕ) (y : CheckOut) → outs k ≡ Some y → ticket_with host (moved (fact.Entered op x n) k y) ≡ Some ticket →
          Tick outs k host ticket ⊎ Enters q r op x k host ticket
      ticks k host ticket y there has = elim (eqb_tells op k) [
        | inl w ↦
            let g : ticket_with host (Waits x n) ≡ Some ticket = rw w.0 at has in
            let s = same-ticket x host n ticket g in
            inr (record { by = sym w.1; at = sym s.0; new = sym s.1 ∙ i.new; counted = let c = i.counted in let e = s.1 in omega arith })
        | inr w ↦ let g : ticket_with host y ≡ Some ticket = rw w.0 at has in inl (record { out = y; there = there; has = g })
      ]

      holds : (k : ℕ) (y : CheckOut) → outs k ≡ Some y → HoldsIn r (moved (fact.Entered op x n) k y)
      holds k y there = elim (eqb_tells op k) [
        | inl w ↦ rw w.0 i.waits
        | inr w ↦ rw w.0 (holds-on q r x moment (pool.Entered n) m y (λ ticket _. record { takes = refl; pays = refl; gives = refl }) (h.holds k y there))
      ]

-- ---- Along a trail

meets-step : (client : Client) (p : Point) (moment : ℕ) (f : Fact) (v : ClientState) → MayStand client p moment f → Stepped client p moment f v →
    Meets client p.state → Meets client v
meets-step client p moment (fact.PoolReady x) v m s h =
    alone client p moment (fact.PoolReady x) v x pool.Ready s refl (λ op. refl) (λ t. record { takes = refl; pays = refl; gives = refl }) h
meets-step client p moment (fact.PoolClear x) v m s h =
    alone client p moment (fact.PoolClear x) v x pool.Clear s refl (λ op. refl) (λ t. record { takes = refl; pays = refl; gives = refl }) h
meets-step client p moment (fact.PoolShut x) v m s h =
    alone client p moment (fact.PoolShut x) v x pool.Shut s refl (λ op. refl) (λ t. record { takes = refl; pays = refl; gives = refl }) h
meets-step client p moment (fact.Entered op x n) v m s h =
    matched-entered (out_at p.state.commands) (out_at v.commands) (pool_at client p.state.servers) (pool_at client v.servers) op x moment n
    (moves-of client p moment (fact.Entered op x n) v x (pool.Entered n) s refl) h s.outs
meets-step client p moment (fact.Lent op x conn) v m s h = lent client p moment op x conn v s m h
meets-step client p moment (fact.Dialled op x conn stream) v m s h = dialled client p moment op x conn stream v s m.1 h
meets-step client p moment (fact.Settled op x conn stale) v m s h =
    let n = named (ticket_dialling x conn) (λ t. pool.Settled t conn stale) p.state moment x (out_at p.state.commands op) m in
    alone client p moment (fact.Settled op x conn stale) v x (pool.Settled n.number conn stale) s n.told (λ op. refl) (λ t. record { takes = refl; pays = refl; gives = refl }) h
meets-step client p moment (fact.NotLent op x why) v m s h = not-lent client p moment op x why v s m h
meets-step client p moment (fact.CheckedIn op x conn errored) v m s h = checked-in client p moment op x conn errored v s m h
meets-step client p moment (fact.ConnShut x conn reason) v m s h =
    alone client p moment (fact.ConnShut x conn reason) v x (pool.ConnShut conn reason) s refl (λ op. refl) (λ t. record { takes = refl; pays = refl; gives = refl }) h
meets-step client p moment f v m s h = still client p moment f v s refl (λ op. refl) h

-- what a law of pools says of each trail of a pool
abbrev pub StandsOnce : Type 0
StandsOnce = (rules : PoolRules) (ts : List (Timed PoolEntry)) → IsTrail rules ts → (conn : ℕ) → times_of (pool_behind rules ts) conn ≤ 1

once-at : StandsOnce → (client : Client) (ts : List (Timed Fact)) → AreLegal client ts → (host : ℕ) → IsOnce (pool_at client (point_behind client ts).state.servers host).state
once-at law client ts l host =
    let k = pool-leads client host ts l in
    subst (λ (p : Place Pool PoolEntry). IsOnce p.state) (sym k.to) (law (pool_rules client) (pool_part client host ts) k.legal)

meets-begins : (client : Client) → Meets client (beginning client).state
meets-begins client = record {
  once = λ a b host ticket x y. absurd (none a host ticket x);
  below = λ op host ticket x. absurd (none op host ticket x);
  holds = λ op h there. subst (HoldsIn (pool_at client [])) (sym (nothing (slice_get client.commands op) h (sym (ap out_in (slice_get-map fresh_command client.commands op)) ∙ there))) tt;
  ok = λ host. tt;
} where
  nothing : (o : Option Command) (h : CheckOut) → out_in (option_map fresh_command o) ≡ Some h → h ≡ Nothing
  nothing None h e = absurd (cc)
  nothing (Some c) h e = cc

  none : (op host ticket : ℕ) → Tick (out_at (map fresh_command client.commands)) op host ticket → ⊥
  none op host ticket x =
      let n = nothing (slice_get client.commands op) x.out (sym (ap out_in (slice_get-map fresh_command client.commands op)) ∙ x.there) in
      let e : None ≡ Some ticket = ap (ticket_with host) (sym n) ∙ x.has in
      absurd (cc)

pub meets : StandsOnce → (client : Client) (ts : List (Timed Fact)) → AreLegal client ts → Meets client (point_behind client ts).state
meets law client ts l =
    along client (λ p. Meets client p.state)
    (λ xs t f h.
    let p = point_behind client xs in
    let v = (point_after client p t).state in
    meets-step client p t.at t.what v f.stands.rule
    (record {
      leads = λ host. pool-step-leads client host p t f.stands;
      outs = λ op. out-step client t.at p.state t.what op;
      once = λ host. subst (λ (q : Point). IsOnce (pool_at client q.state.servers host).state) f.to (once-at law client (xs ++ t ∷ []) f.all host);
    }) h)
    (meets-begins client) ts l

-- ---- In the words of the laws

pub out-there : (w : ClientState) (op : ℕ) (c : CommandState) (h : CheckOut) → slice_get w.commands op ≡ Some c → c.check_out ≡ h → out_at w.commands op ≡ Some h
out-there w op c h there e = ap out_in there ∙ ap (λ k. Some k) e

pub waits-at : (client : Client) (w : ClientState) (host ticket : ℕ) → IsWaiting (pool_at client w.servers host).state ticket → WaitsAt w host ticket
waits-at client w host ticket i = by (slice_get w.servers host) refl i where
  by : (o : Option ServerState) → slice_get w.servers host ≡ o → IsWaiting (pool_or client o).state ticket → WaitsAt w host ticket
  by None e (t, found) = absurd (cc)
  by (Some s) e (t, found) = record { server = s; there = e; waiting = t; waits = found }

pub dials-at : (client : Client) (w : ClientState) (host ticket conn : ℕ) → IsDialling (pool_at client w.servers host).state (pool_at client w.servers host).owed conn ticket →
    DialsAt w host ticket conn
dials-at client w host ticket conn i = by (slice_get w.servers host) refl i where
  unpaid : (p : Place Pool PoolEntry) → IsDialling p.state p.owed conn ticket → p.owed ≡ [] → IsHeldBy p.state.pending conn ticket
  unpaid p k e = elim (subst (λ ds. IsDialling p.state ds conn ticket) e k) [ inl h ↦ h | inr h ↦ absurd (cc) ]

  by : (o : Option ServerState) → slice_get w.servers host ≡ o → IsDialling (pool_or client o).state (pool_or client o).owed conn ticket → DialsAt w host ticket conn
  by None e k = elim k [ inl h ↦ absurd (let f = h.found in cc) | inr h ↦ absurd (cc) ]
  by (Some s) e k = record { server = s; there = e; pending = unpaid s.pool k }

pub has-at : (client : Client) (w : ClientState) (host ticket conn : ℕ) → IsHeldBy (pool_at client w.servers host).state.lent conn ticket → HasAt w host ticket conn
has-at client w host ticket conn i = by (slice_get w.servers host) refl i where
  by : (o : Option ServerState) → slice_get w.servers host ≡ o → IsHeldBy (pool_or client o).state.lent conn ticket → HasAt w host ticket conn
  by None e k = absurd (let f = k.found in cc)
  by (Some s) e k = record { server = s; there = e; lent = k }

pub one-ticket : (client : Client) (w : ClientState) (a b : ℕ) (x y : CommandState) (host ticket : ℕ) → Meets client w → slice_get w.commands a ≡ Some x → slice_get w.commands b ≡ Some y →
    ticket_with host x.check_out ≡ Some ticket → ticket_with host y.check_out ≡ Some ticket → a ≡ b
one-ticket client w a b x y host ticket m s t e f =
    m.once a b host ticket (record { out = x.check_out; there = out-there w a x x.check_out s refl; has = e })
    (record { out = y.check_out; there = out-there w b y y.check_out t refl; has = f })

own-ticket : (host ticket : ℕ) → cond (eqb host host) (Some ticket) None ≡ Some ticket
own-ticket host ticket = rw (eq-eqb host host refl) refl

pub one-borrower : (client : Client) (w : ClientState) (a b : ℕ) (x y : CommandState) (host s t conn : ℕ) → Meets client w → slice_get w.commands a ≡ Some x → slice_get w.commands b ≡ Some y →
    x.check_out ≡ Has host s conn → y.check_out ≡ Has host t conn → a ≡ b
one-borrower client w a b x y host s t conn m i j e f =
    let u : IsHeldBy (pool_at client w.servers host).state.lent conn s = m.holds a (Has host s conn) (out-there w a x (Has host s conn) i e) in
    let v : IsHeldBy (pool_at client w.servers host).state.lent conn t = m.holds b (Has host t conn) (out-there w b y (Has host t conn) j f) in
    let one : u.held ≡ v.held = let c = u.found in let d = v.found in cc in
    let same : s ≡ t = sym u.by ∙ ap (λ (k : Held). k.ticket) one ∙ v.by in
    one-ticket client w a b x y host t m i j
    (ap (ticket_with host) e ∙ own-ticket host s ∙ ap (λ k. Some k) same) (ap (ticket_with host) f ∙ own-ticket host t)
