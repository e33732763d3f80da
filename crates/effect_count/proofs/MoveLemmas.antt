-- Which entry of a pool an entry of the trail is; and what a pool owes is owed by the client.
use Rattle.std.proofs.Common.{◌≡◌, ◌≤◌, ◌⊎◌, inl, inr, ℕ, ◌+◌, Bool, true, false, ◌&&◌, cond, eqb, List, [], ◌∷◌, ◌++◌, length, map, Option, None, Some, refl, sym, ap, ◌∙◌, subst, arith}
use Rattle.std.specs.Prelude.{slice_get, if◌then◌else◌}
use Rattle.std.specs.Option.{option_and_then, option_map, option_map_or}
use Rattle.std.proofs.lemmas.Bool.{eq-eqb}
use Rattle.std.proofs.lemmas.Bool.Decides.{eqb_tells}
use Rattle.entry_judge.specs.Groups.{ComesNext, Place, Stands, next_place, place_by}
use Rattle.entry_judge.specs.Judge.{state_after}
use Rattle.pool_book.specs.Entries.{PoolEntry, owes as pool_entry_owes}
use Rattle.pool_book.specs.Entries as pool
use Rattle.pool_book.specs.Judge.{pool_judge}
use Rattle.pool_book.specs.Pool.{Pool}
use Rattle.pool_book.specs.Sound.{times_available, times_held}
use Rattle.write_retry.specs.declared.events.Unsent.{Unsent}
use Rattle.write_retry.specs.declared.events.Unsent.TheVariants as unsent
use Rattle.desk_trail.specs.Attempts.{endpoint_at, not_lent_offers}
use Rattle.desk_trail.specs.Clients.{Client}
use Rattle.desk_trail.specs.Facts.{Fact}
use Rattle.desk_trail.specs.Facts as fact
use Rattle.desk_trail.specs.Legal.{MayStand, Point, owes}
use Rattle.desk_trail.specs.Owed.{InTurn, IsOwed, Owed, left_owed}
use Rattle.desk_trail.specs.Owed as owed
use Rattle.desk_trail.specs.Parts.{of_pool}
use Rattle.desk_trail.specs.Pools.{OfHost, PoolAllows, at_host, check_out_of, lost_with, not_lent_with, owed_in, owed_of, pool_owes, pool_step, ticket_dialling, ticket_having, ticket_with}
use Rattle.desk_trail.specs.States.{CheckOut, ClientState, CommandState, Dials, Has, Nothing, ServerState, Waits, host_held}
use Rattle.effect_count.proofs.OwedLemmas.{AllPass, is_unbound}
use Rattle.effect_count.proofs.PoolLemmas.{AreCalm, IsAmong, IsPool, is_calm, lent-was, unowed}

-- ---- What laws say of a client's pools at a place of a trail

pub record AtPools (w : ClientState) (pools : ℕ → Place Pool PoolEntry) : Type 0 where
  pub are : (host : ℕ) (s : ServerState) → slice_get w.servers host ≡ Some s → s.pool ≡ pools host
  pub whole : (host : ℕ) → IsPool (pools host)
  pub lent : (op : ℕ) (c : CommandState) (host ticket conn : ℕ) → slice_get w.commands op ≡ Some c → c.check_out ≡ Has host ticket conn →
      1 ≤ times_held conn (pools host).state.lent
  pub one : (a b : ℕ) (x y : CommandState) (host s t conn : ℕ) → slice_get w.commands a ≡ Some x → slice_get w.commands b ≡ Some y → x.check_out ≡ Has host s conn →
      y.check_out ≡ Has host t conn → a ≡ b

-- ---- Which entry of a pool

abbrev pub is_other : PoolEntry → Bool
is_other (pool.Settled t conn stale) = false
is_other (pool.CheckedIn t conn errored) = false
is_other e = true

pub data Kind (w : ClientState) (f : Fact) (y : ℕ) (e : PoolEntry) : Type 0 where
  settles : (op conn t : ℕ) (stale : Bool) → f ≡ fact.Settled op y conn stale → e ≡ pool.Settled t conn stale → Kind w f y e
  returns : (op conn t : ℕ) (errored : Bool) → f ≡ fact.CheckedIn op y conn errored → e ≡ pool.CheckedIn t conn errored → (c : CommandState) → slice_get w.commands op ≡ Some c →
      c.check_out ≡ Has y t conn → Kind w f y e
  others : is_other e ≡ true → Kind w f y e

abbrev one_if : Bool → ℕ
one_if b = cond b 1 0

-- an entry that may pay what a pool owes
abbrev about : ℕ → Fact → ℕ
about y (fact.Lent op host conn) = one_if (eqb host y)
about y (fact.NotLent op host why) = one_if (eqb host y)
about y (fact.ConnShut host conn reason) = one_if (eqb host y)
about y f = 0

pub data Moves (w : ClientState) (moment : ℕ) (f : Fact) (y : ℕ) (q : Place Pool PoolEntry) : Type 0 where
  still : of_pool y moment (pool_step w f) ≡ [] → about y f ≡ 0 → Moves w moment f y q
  goes : (e : PoolEntry) → pool_step w f ≡ Some (y, e) → (s : ServerState) → slice_get w.servers y ≡ Some s → s.pool ≡ q →
      Stands pool_judge q (record { at = moment; what = e }) → Kind w f y e → Moves w moment f y q

moves-at : (w : ClientState) (pools : ℕ → Place Pool PoolEntry) (moment : ℕ) (f : Fact) (h y : ℕ) (e : PoolEntry) → AtPools w pools → pool_step w f ≡ Some (h, e) →
    PoolAllows w moment (Some (h, e)) → (eqb h y ≡ false → about y f ≡ 0) → Kind w f h e → Moves w moment f y (pools y)
moves-at w pools moment f h y e at step a nil k = elim (eqb_tells h y) [
  | inl x ↦
      let is : a.0.pool ≡ pools y = at.are h a.0 a.1 ∙ ap pools x.1 in
      goes e (step ∙ ap (λ (n : ℕ). Some (n, e)) x.1) a.0 (subst (λ n. slice_get w.servers n ≡ Some a.0) x.1 a.1) is
      (subst (λ q. Stands pool_judge q (record { at = moment; what = e })) is a.2) (subst (λ n. Kind w f n e) x.1 k)
  | inr x ↦ still (ap (of_pool y moment) step ∙ ap (λ (b : Bool). if b then record { at = moment; what = e } ∷ [] else []) x.0) (nil x.0)
]

-- a command has a ticket
record Ticketed (w : ClientState) (moment op host : ℕ) (mk : ℕ → PoolEntry) (test : CheckOut → Option ℕ) : Type 0 where
  pub ticket : ℕ
  pub step : at_host host (option_map mk (option_and_then test (check_out_of w op))) ≡ Some (host, mk ticket)
  pub allows : PoolAllows w moment (Some (host, mk ticket))
  pub command : CommandState
  pub there : slice_get w.commands op ≡ Some command
  pub by : test command.check_out ≡ Some ticket

ticketed : (w : ClientState) (moment op host : ℕ) (mk : ℕ → PoolEntry) (test : CheckOut → Option ℕ) →
    PoolAllows w moment (at_host host (option_map mk (option_and_then test (check_out_of w op)))) → Ticketed w moment op host mk test
ticketed w moment op host mk test a = by (slice_get w.commands op) refl
  where
    tested : (c : CommandState) → slice_get w.commands op ≡ Some c → (o : Option ℕ) → test c.check_out ≡ o → Ticketed w moment op host mk test
    tested c there None e =
        absurd (subst (λ o. PoolAllows w moment (at_host host (option_map mk o))) (ap (λ o. option_and_then test (option_map (λ (x : CommandState). x.check_out) o)) there ∙ e) a)
    tested c there (Some t) e =
        let is : option_and_then test (check_out_of w op) ≡ Some t = ap (λ o. option_and_then test (option_map (λ (x : CommandState). x.check_out) o)) there ∙ e in
        record {
          ticket = t;
          step = ap (λ o. at_host host (option_map mk o)) is;
          allows = subst (λ o. PoolAllows w moment (at_host host (option_map mk o))) is a;
          command = c;
          there = there;
          by = e;
        }

    by : (o : Option CommandState) → slice_get w.commands op ≡ o → Ticketed w moment op host mk test
    by None e = absurd (subst (λ o. PoolAllows w moment (at_host host (option_map mk (option_and_then test (option_map (λ (x : CommandState). x.check_out) o))))) e a)
    by (Some c) e = tested c e (test c.check_out) refl

-- of which host
held-with : (host : ℕ) (h : CheckOut) (t : ℕ) → ticket_with host h ≡ Some t → host_held h ≡ Some host
held-with host Nothing t e = absurd (cc)
held-with host (Waits x n) t e = elim (eqb_tells x host) [
  | inl w ↦ ap (λ m. Some m) w.1
  | inr w ↦ absurd (let no : None ≡ Some t = sym (ap (λ b. cond b (Some n) None) w.0) ∙ e in cc)
]
held-with host (Dials x n c) t e = elim (eqb_tells x host) [
  | inl w ↦ ap (λ m. Some m) w.1
  | inr w ↦ absurd (let no : None ≡ Some t = sym (ap (λ b. cond b (Some n) None) w.0) ∙ e in cc)
]
held-with host (Has x n c) t e = elim (eqb_tells x host) [
  | inl w ↦ ap (λ m. Some m) w.1
  | inr w ↦ absurd (let no : None ≡ Some t = sym (ap (λ b. cond b (Some n) None) w.0) ∙ e in cc)
]

has-with : (host conn : ℕ) (h : CheckOut) (t : ℕ) → ticket_having host conn h ≡ Some t → h ≡ Has host t conn
has-with host conn (Has x n c) t e = elim (eqb_tells x host) [
  | inl w ↦ elim (eqb_tells c conn) [
    | inl v ↦
        let now : Some n ≡ Some t = sym (ap (λ b. cond b (Some n) None) (ap (λ b. b && eqb c conn) w.0 ∙ v.0)) ∙ e in
        let same : n ≡ t = (cc) in
        ap (λ m. Has m n c) w.1 ∙ ap (λ m. Has host m c) same ∙ ap (Has host t) v.1
    | inr v ↦ absurd (let no : None ≡ Some t = sym (ap (λ b. cond b (Some n) None) (ap (λ b. b && eqb c conn) w.0 ∙ v.0)) ∙ e in cc)
  ]
  | inr w ↦ absurd (let no : None ≡ Some t = sym (ap (λ b. cond b (Some n) None) (ap (λ b. b && eqb c conn) w.0)) ∙ e in cc)
]
has-with host conn Nothing t e = absurd (cc)
has-with host conn (Waits x n) t e = absurd (cc)
has-with host conn (Dials x n c) t e = absurd (cc)

-- a command that gets none
map-other : (mk : ℕ → PoolEntry) (o : Option ℕ) (e : PoolEntry) → ((t : ℕ) → is_other (mk t) ≡ true) → option_map mk o ≡ Some e → is_other e ≡ true
map-other mk None e h is = absurd (cc)
map-other mk (Some t) e h is = let same : mk t ≡ e = (cc) in ap is_other (sym same) ∙ h t

lost-other : (x : ℕ) (h : CheckOut) (e : PoolEntry) → lost_with x h ≡ Some e → is_other e ≡ true
lost-other x (Dials host t conn) e is = by (eqb host x) is
  where
    by : (b : Bool) → (if b then Some (pool.NotLent t (pool.Lost conn)) else None) ≡ Some e → is_other e ≡ true
    by true k = let same : pool.NotLent t (pool.Lost conn) ≡ e = (cc) in ap is_other (sym same)
    by false k = absurd (cc)
lost-other x Nothing e is = absurd (cc)
lost-other x (Waits host t) e is = absurd (cc)
lost-other x (Has host t conn) e is = absurd (cc)

not_lent-other : (x : ℕ) (u : Unsent) (h : CheckOut) (e : PoolEntry) → not_lent_with x u h ≡ Some e → is_other e ≡ true
not_lent-other x unsent.PoolLate h e is = map-other (λ t. pool.NotLent t pool.Late) (ticket_with x h) e (λ t. refl) is
not_lent-other x (unsent.PoolCleared generation) h e is = map-other (λ t. pool.NotLent t (pool.Cleared generation)) (ticket_with x h) e (λ t. refl) is
not_lent-other x (unsent.PoolClosed host) h e is = by (eqb host x) is
  where
    by : (b : Bool) → (if b then option_map (λ t. pool.NotLent t pool.Closed) (ticket_with x h) else None) ≡ Some e → is_other e ≡ true
    by true k = map-other (λ t. pool.NotLent t pool.Closed) (ticket_with x h) e (λ t. refl) k
    by false k = absurd (cc)
not_lent-other x (unsent.Dial bad) h e is = lost-other x h e is
not_lent-other x (unsent.Greeting code) h e is = lost-other x h e is
not_lent-other x (unsent.TooLarge size most) h e is = absurd (cc)

not_lent-moves : (w : ClientState) (pools : ℕ → Place Pool PoolEntry) (moment op host y : ℕ) (u : Unsent) → AtPools w pools →
    PoolAllows w moment (pool_step w (fact.NotLent op host u)) → Moves w moment (fact.NotLent op host u) y (pools y)
not_lent-moves w pools moment op host y u at a = by (option_and_then (not_lent_with host u) (check_out_of w op)) refl
  where
    from : (o : Option CheckOut) (e : PoolEntry) → option_and_then (not_lent_with host u) o ≡ Some e → is_other e ≡ true
    from None e is = absurd (cc)
    from (Some h) e is = not_lent-other host u h e is

    by : (o : Option PoolEntry) → option_and_then (not_lent_with host u) (check_out_of w op) ≡ o → Moves w moment (fact.NotLent op host u) y (pools y)
    by None e = absurd (subst (λ o. PoolAllows w moment (at_host host o)) e a)
    by (Some x) e =
        moves-at w pools moment (fact.NotLent op host u) host y x at (ap (at_host host) e) (subst (λ o. PoolAllows w moment (at_host host o)) e a) (λ q. ap one_if q)
        (others (from (check_out_of w op) x e))

pub moves : (client : Client) (p : Point) (pools : ℕ → Place Pool PoolEntry) (moment : ℕ) (f : Fact) → MayStand client p moment f → AtPools p.state pools → (y : ℕ) →
    Moves p.state moment f y (pools y)
moves client p pools moment (fact.PoolReady host) m at y = moves-at p.state pools moment (fact.PoolReady host) host y pool.Ready at refl m (λ q. refl) (others refl)
moves client p pools moment (fact.PoolClear host) m at y = moves-at p.state pools moment (fact.PoolClear host) host y pool.Clear at refl m (λ q. refl) (others refl)
moves client p pools moment (fact.PoolShut host) m at y = moves-at p.state pools moment (fact.PoolShut host) host y pool.Shut at refl m (λ q. refl) (others refl)
moves client p pools moment (fact.Entered op host ticket) m at y =
    moves-at p.state pools moment (fact.Entered op host ticket) host y (pool.Entered ticket) at refl m.1 (λ q. refl) (others refl)
moves client p pools moment (fact.ConnShut host conn reason) m at y =
    moves-at p.state pools moment (fact.ConnShut host conn reason) host y (pool.ConnShut conn reason) at refl m (λ q. ap one_if q) (others refl)
moves client p pools moment (fact.Lent op host conn) m at y =
    let t = ticketed p.state moment op host (λ n. pool.Lent n conn) (ticket_with host) m in
    moves-at p.state pools moment (fact.Lent op host conn) host y (pool.Lent t.ticket conn) at t.step t.allows (λ q. ap one_if q) (others refl)
moves client p pools moment (fact.Dialled op host conn stream) m at y =
    let t = ticketed p.state moment op host (λ n. pool.Dialled n conn) (ticket_with host) m.1 in
    moves-at p.state pools moment (fact.Dialled op host conn stream) host y (pool.Dialled t.ticket conn) at t.step t.allows (λ q. refl) (others refl)
moves client p pools moment (fact.Settled op host conn stale) m at y =
    let t = ticketed p.state moment op host (λ n. pool.Settled n conn stale) (ticket_dialling host conn) m in
    moves-at p.state pools moment (fact.Settled op host conn stale) host y (pool.Settled t.ticket conn stale) at t.step t.allows (λ q. refl) (settles op conn t.ticket stale refl refl)
moves client p pools moment (fact.NotLent op host why) m at y = not_lent-moves p.state pools moment op host y why at m
moves client p pools moment (fact.CheckedIn op host conn errored) m at y =
    let t = ticketed p.state moment op host (λ n. pool.CheckedIn n conn errored) (ticket_having host conn) m in
    moves-at p.state pools moment (fact.CheckedIn op host conn errored) host y (pool.CheckedIn t.ticket conn errored) at t.step t.allows (λ q. refl)
    (returns op conn t.ticket errored refl refl t.command t.there (has-with host conn t.command.check_out t.ticket t.by))
moves client p pools moment f m at y = still refl refl

-- a connection is dialled where its pool owes nothing, as the next one
pub record Dialling (w : ClientState) (moment : ℕ) (f : Fact) (host conn : ℕ) (q : Place Pool PoolEntry) : Type 0 where
  pub ticket : ℕ
  pub step : pool_step w f ≡ Some (host, pool.Dialled ticket conn)
  pub none : q.owed ≡ []
  pub may : pool.MayStand q.state moment (pool.Dialled ticket conn)

unowed-none : (e : PoolEntry) (M : Type 0) (ds : List PoolEntry) → is_calm e ≡ false → AreCalm ds → ComesNext ds e M → ds ≡ []
unowed-none e M [] n c s = refl
unowed-none e M (d ∷ ds) n c s = let no : true ≡ false = sym c.0 ∙ ap is_calm (sym s) ∙ n in absurd (cc)

pub dialling : (client : Client) (p : Point) (pools : ℕ → Place Pool PoolEntry) (moment op host conn : ℕ) (stream : Option ℕ) →
    MayStand client p moment (fact.Dialled op host conn stream) → AtPools p.state pools → Dialling p.state moment (fact.Dialled op host conn stream) host conn (pools host)
dialling client p pools moment op host conn stream m at =
    let t = ticketed p.state moment op host (λ n. pool.Dialled n conn) (ticket_with host) m.1 in
    let e = pool.Dialled t.ticket conn in
    let stands : Stands pool_judge (pools host) (record { at = moment; what = e }) =
    subst (λ q. Stands pool_judge q (record { at = moment; what = e })) (at.are host t.allows.0 t.allows.1) t.allows.2 in
    let calm = (at.whole host).calm in
    record {
      ticket = t.ticket;
      step = t.step;
      none = unowed-none e (pool.MayStand (pools host).state moment e) (pools host).owed refl calm stands;
      may = unowed (pools host).state (pools host).owed moment e refl calm stands;
    }

-- one that is lent is available, or must be lent next
pub record Lending (w : ClientState) (op host conn : ℕ) (q : Place Pool PoolEntry) : Type 0 where
  pub command : CommandState
  pub there : slice_get w.commands op ≡ Some command
  pub held : host_held command.check_out ≡ Some host
  pub from : (1 ≤ times_available conn q.state.available) ⊎ ((n : ℕ) × IsAmong (pool.Lent n conn) q.owed)

lent-from : (p : Pool) (ds : List PoolEntry) (moment n conn : ℕ) → ComesNext ds (pool.Lent n conn) (pool.MayStand p moment (pool.Lent n conn)) →
    (1 ≤ times_available conn p.available) ⊎ ((m : ℕ) × IsAmong (pool.Lent m conn) ds)
lent-from p [] moment n conn s = inl (lent-was p moment n conn s)
lent-from p (d ∷ ds) moment n conn s = inr (n, inl (sym s))

pub lending : (client : Client) (p : Point) (pools : ℕ → Place Pool PoolEntry) (moment op host conn : ℕ) → MayStand client p moment (fact.Lent op host conn) → AtPools p.state pools →
    Lending p.state op host conn (pools host)
lending client p pools moment op host conn m at =
    let t = ticketed p.state moment op host (λ n. pool.Lent n conn) (ticket_with host) m in
    let e = pool.Lent t.ticket conn in
    record {
      command = t.command;
      there = t.there;
      held = held-with host t.command.check_out t.ticket t.by;
      from = lent-from (pools host).state (pools host).owed moment t.ticket conn
          (subst (λ q. Stands pool_judge q (record { at = moment; what = e })) (at.are host t.allows.0 t.allows.1) t.allows.2);
    }

-- ---- How many entries of a pool must come next

abbrev one_of : ℕ → Owed → ℕ
one_of y (owed.OfPool x) = one_if (eqb x y)
one_of y d = 0

abbrev pub waits : ℕ → List Owed → ℕ
waits y [] = 0
waits y (d ∷ ds) = one_of y d + waits y ds

waits-append : (y : ℕ) (xs ys : List Owed) → waits y (xs ++ ys) ≡ waits y xs + waits y ys
waits-append y [] ys = omega arith
waits-append y (x ∷ xs) ys = let rest = waits-append y xs ys in omega (arith, rest)

pool-about : (y x : ℕ) (f : Fact) → owed.IsOfPool x f → one_if (eqb x y) ≤ about y f
pool-about y x (fact.Lent op host conn) t = let same = ap (λ n. one_if (eqb n y)) t in omega (arith, same)
pool-about y x (fact.NotLent op host why) t = let same = ap (λ n. one_if (eqb n y)) t in omega (arith, same)
pool-about y x (fact.ConnShut host conn reason) t = let same = ap (λ n. one_if (eqb n y)) t in omega (arith, same)
pool-about y x f t = absurd t

head-about : (y : ℕ) (d : Owed) (f : Fact) → IsOwed d f → one_of y d ≤ about y f
head-about y (owed.OfPool x) f t = pool-about y x f t
head-about y d f t = omega arith

left-about : (y : ℕ) (ds : List Owed) (f : Fact) → InTurn ds f → waits y ds ≤ about y f + waits y (left_owed ds f)
left-about y ds (fact.Time stamp) t = omega arith
left-about y [] f t = omega arith
left-about y (d ∷ ds) f t = let here = head-about y d f t in omega (arith, here)

-- an entry takes away one of them at most
about-one : (y : ℕ) (f : Fact) → about y f ≤ 1
about-one y (fact.Lent op host conn) = by (eqb host y)
  where
    by : (b : Bool) → one_if b ≤ 1
    by true = omega arith
    by false = omega arith
about-one y (fact.NotLent op host why) = by (eqb host y)
  where
    by : (b : Bool) → one_if b ≤ 1
    by true = omega arith
    by false = omega arith
about-one y (fact.ConnShut host conn reason) = by (eqb host y)
  where
    by : (b : Bool) → one_if b ≤ 1
    by true = omega arith
    by false = omega arith
about-one y f = omega arith

-- ---- What a pool owes, the client owes

abbrev count_in : Pool → Option OfHost → ℕ
count_in p o = option_map_or (λ (x : OfHost). length (pool_entry_owes p x.1)) o 0

none-owed : (p : Pool) (host : ℕ) (mk : ℕ → PoolEntry) (o : Option ℕ) → ((t : ℕ) → pool_entry_owes p (mk t) ≡ []) → count_in p (at_host host (option_map mk o)) ≡ 0
none-owed p host mk None h = refl
none-owed p host mk (Some t) h = ap (λ (xs : List PoolEntry). length xs) (h t)

waits-map : (y : ℕ) (xs : List PoolEntry) → waits y (map (λ (d : PoolEntry). owed.OfPool y) xs) ≡ length xs
waits-map y [] = refl
waits-map y (x ∷ xs) = let rest = waits-map y xs in let own : one_if (eqb y y) ≡ 1 = ap one_if (eq-eqb y y refl) in omega (arith, rest, own)

module _ (w : ClientState) (y : ℕ) (e : PoolEntry) (q : Place Pool PoolEntry) (s : ServerState) (there : slice_get w.servers y ≡ Some s) (is : s.pool ≡ q) (none : q.owed ≡ []) where
  pool-waits : (o : Option OfHost) → o ≡ Some (y, e) → length (pool_entry_owes q.state e) ≤ waits y (pool_owes w o)
  pool-waits o step =
      let one : pool_owes w o ≡ owed_of y (slice_get w.servers y) e = ap (pool_owes w) step in
      let two : owed_of y (slice_get w.servers y) e ≡ owed_in y s.pool.owed s.pool.state e = ap (λ (x : Option ServerState). owed_of y x e) there in
      let three : owed_in y s.pool.owed s.pool.state e ≡ owed_in y q.owed q.state e = ap (λ (x : Place Pool PoolEntry). owed_in y x.owed x.state e) is in
      let four : owed_in y q.owed q.state e ≡ map (λ (d : PoolEntry). owed.OfPool y) (pool_entry_owes q.state e) = ap (λ (ds : List PoolEntry). owed_in y ds q.state e) none in
      let all = ap (waits y) (one ∙ two ∙ three ∙ four) in
      let count = waits-map y (pool_entry_owes q.state e) in
      omega (arith, all, count)

  few : (o : Option OfHost) → o ≡ Some (y, e) → count_in q.state o ≡ 0 → (n : ℕ) → length (pool_entry_owes q.state e) ≤ n
  few o step nil n = let same : count_in q.state o ≡ length (pool_entry_owes q.state e) = ap (count_in q.state) step in omega (arith, same, nil)

  pub owed-waits : (client : Client) (moment : ℕ) (f : Fact) → pool_step w f ≡ Some (y, e) → length (pool_entry_owes q.state e) ≤ waits y (owes client moment w f)
  owed-waits client moment (fact.PoolShut host) step = pool-waits (pool_step w (fact.PoolShut host)) step
  owed-waits client moment (fact.Settled op host conn stale) step = pool-waits (pool_step w (fact.Settled op host conn stale)) step
  owed-waits client moment (fact.CheckedIn op host conn errored) step = pool-waits (pool_step w (fact.CheckedIn op host conn errored)) step
  owed-waits client moment (fact.NotLent op host why) step =
      let here = pool-waits (pool_step w (fact.NotLent op host why)) step in
      let all = waits-append y (pool_owes w (pool_step w (fact.NotLent op host why))) (not_lent_offers (endpoint_at w op) why) in
      omega (arith, here, all)
  owed-waits client moment (fact.PoolReady host) step = few (pool_step w (fact.PoolReady host)) step refl _
  owed-waits client moment (fact.PoolClear host) step = few (pool_step w (fact.PoolClear host)) step refl _
  owed-waits client moment (fact.Entered op host ticket) step = few (pool_step w (fact.Entered op host ticket)) step refl _
  owed-waits client moment (fact.ConnShut host conn reason) step = few (pool_step w (fact.ConnShut host conn reason)) step refl _
  owed-waits client moment (fact.Lent op host conn) step =
      few (pool_step w (fact.Lent op host conn)) step (none-owed q.state host (λ t. pool.Lent t conn) (option_and_then (ticket_with host) (check_out_of w op)) (λ t. refl)) _
  owed-waits client moment (fact.Dialled op host conn stream) step =
      few (pool_step w (fact.Dialled op host conn stream)) step (none-owed q.state host (λ t. pool.Dialled t conn) (option_and_then (ticket_with host) (check_out_of w op)) (λ t. refl)) _
  owed-waits client moment f step = absurd (cc)

-- none where neither an entry of a pool nor a check-in must
pub unbound-waits : (y : ℕ) (ds : List Owed) → AllPass is_unbound ds → waits y ds ≡ 0
unbound-waits y [] h = refl
unbound-waits y (owed.OfPool x ∷ ds) h = absurd (let no = h.0 in cc)
unbound-waits y (d ∷ ds) h = let rest = unbound-waits y ds h.1 in omega (arith, rest)

-- the pool behind an entry
abbrev pub pool_next : Place Pool PoolEntry → ℕ → ℕ → Option OfHost → Place Pool PoolEntry
pool_next q y moment o = state_after (next_place pool_judge) q (of_pool y moment o)

pub still-next : (q : Place Pool PoolEntry) (y moment : ℕ) (o : Option OfHost) → of_pool y moment o ≡ [] → pool_next q y moment o ≡ q
still-next q y moment o e = ap (λ ts. state_after (next_place pool_judge) q ts) e

pub goes-next : (q : Place Pool PoolEntry) (y moment : ℕ) (o : Option OfHost) (e : PoolEntry) → o ≡ Some (y, e) →
    pool_next q y moment o ≡ next_place pool_judge q (record { at = moment; what = e })
goes-next q y moment o e step =
    ap (pool_next q y moment) step
    ∙ ap (λ (b : Bool). state_after (next_place pool_judge) q (if b then record { at = moment; what = e } ∷ [] else [])) (eq-eqb y y refl)

-- where nothing must come next of it, the entry changes it; what must come next is paid
pub next-unowed : (q : Place Pool PoolEntry) (moment : ℕ) (e : PoolEntry) → q.owed ≡ [] →
    next_place pool_judge q (record { at = moment; what = e }) ≡ record { state = pool.after q.state moment e; owed = pool_entry_owes q.state e }
next-unowed q moment e none = ap (λ os. place_by pool_judge q.state os (record { at = moment; what = e })) none

pub next-owed : (q : Place Pool PoolEntry) (moment : ℕ) (e d : PoolEntry) (ds : List PoolEntry) → q.owed ≡ d ∷ ds →
    next_place pool_judge q (record { at = moment; what = e }) ≡ record { state = q.state; owed = ds }
next-owed q moment e d ds some = ap (λ os. place_by pool_judge q.state os (record { at = moment; what = e })) some

pub waits-step : (client : Client) (p : Point) (moment : ℕ) (f : Fact) (y : ℕ) (q : Place Pool PoolEntry) → InTurn p.owed f → Moves p.state moment f y q →
    length q.owed ≤ waits y p.owed →
    length (pool_next q y moment (pool_step p.state f)).owed ≤ waits y (owes client moment p.state f ++ left_owed p.owed f)
waits-step client p moment f y q turn (still none nil) h =
    let same = ap (λ (x : Place Pool PoolEntry). length x.owed) (still-next q y moment (pool_step p.state f) none) in
    let left = left-about y p.owed f turn in
    let all = waits-append y (owes client moment p.state f) (left_owed p.owed f) in
    omega (arith, same, left, all, nil, h)
waits-step client p moment f y q turn (goes e step s there is stands kind) h = by q.owed refl
  where
    left : waits y p.owed ≤ about y f + waits y (left_owed p.owed f)
    left = left-about y p.owed f turn

    all : waits y (owes client moment p.state f ++ left_owed p.owed f) ≡ waits y (owes client moment p.state f) + waits y (left_owed p.owed f)
    all = waits-append y (owes client moment p.state f) (left_owed p.owed f)

    by : (o : List PoolEntry) → q.owed ≡ o → length (pool_next q y moment (pool_step p.state f)).owed ≤ waits y (owes client moment p.state f ++ left_owed p.owed f)
    by [] none =
        let same = ap (λ (x : Place Pool PoolEntry). length x.owed) (goes-next q y moment (pool_step p.state f) e step ∙ next-unowed q moment e none) in
        let here = owed-waits p.state y e q s there is none client moment f step in
        omega (arith, same, here, all)
    by (d ∷ ds) some =
        let same = ap (λ (x : Place Pool PoolEntry). length x.owed) (goes-next q y moment (pool_step p.state f) e step ∙ next-owed q moment e d ds some) in
        let count = ap (λ (xs : List PoolEntry). length xs) some in
        let one = about-one y f in
        omega (arith, same, count, left, all, one, h)
