-- Where each command is with a pool, and that the pool has it so.
use Rattle.std.proofs.Common.{◌≡◌, ◌≤◌, ◌<◌, ℕ, ◌+◌, Bool, true, false, cond, eqb, List, Option, None, Some, refl, sym, ap, ◌∙◌, subst, arith, ◌⊎◌, inl, inr}
use Rattle.std.specs.Prelude.{slice_get}
use Rattle.std.specs.Option.{option_map}
use Rattle.std.proofs.lemmas.Bool.{eq-eqb}
use Rattle.std.proofs.lemmas.Bool.Decides.{eqb_tells}
use Rattle.std.proofs.lemmas.Iterator.Adapters.{option_map_id}
use Rattle.entry_judge.specs.Groups.{Place, Stands, next_place}
use Rattle.pool_book.specs.Entries.{PoolEntry}
use Rattle.pool_book.specs.Judge.{pool_judge}
use Rattle.pool_book.specs.Pool.{Pool}
use Rattle.desk_trail.specs.declared.entry.LookedHow.{LookedHow}
use Rattle.desk_trail.specs.declared.entry.LookedHow.TheVariants as looked
use Rattle.desk_trail.specs.declared.request.Purpose.{Purpose}
use Rattle.desk_trail.specs.declared.request.Purpose.TheVariants as purpose
use Rattle.desk_trail.specs.Attempts.{OfCommand, asked_by, command_step, commands_after, end_by, finished, with_event}
use Rattle.desk_trail.specs.Checks.{kept_at}
use Rattle.desk_trail.specs.Clients.{Client}
use Rattle.desk_trail.specs.Facts.{Fact}
use Rattle.desk_trail.specs.Facts as fact
use Rattle.desk_trail.specs.Holds.{IsHeldBy}
use Rattle.desk_trail.specs.Legal.{changed_by, client_after, pool_after}
use Rattle.desk_trail.specs.Looks.{look_asks, look_by}
use Rattle.desk_trail.specs.Pools.{check_out_after, conn_streams_after, dials_by, dials_now, has_by, pool_step, pools_after, ticket_with, waits_now}
use Rattle.desk_trail.specs.Requests.{farewell_by}
use Rattle.desk_trail.specs.States.{CheckOut, ClientState, CommandState, Dials, Has, Nothing, Waits, changed}
use Rattle.desk_trail.proofs.HeldLemmas.{AllOk, IsDialling, IsOnce, IsWaiting, dials-behind, entered-rises, gives, has-behind, ok-behind, pays, takes, waits-behind}
use Rattle.desk_trail.proofs.ListLemmas.{changed-keeps, changed-other, changed-same}
use Rattle.desk_trail.proofs.RestLemmas.{Beside-ends_by, Beside-farewell_by, Beside-look_asks, Beside-offered, Beside-pool, Beside-stream_taken}

-- ---- Where a command is with a pool, entry by entry

abbrev pub out_in : Option CommandState → Option CheckOut
out_in o = option_map (λ (c : CommandState). c.check_out) o

abbrev pub out_at : List CommandState → ℕ → Option CheckOut
out_at cs op = out_in (slice_get cs op)

-- the entry is of that command, and moves it
abbrev pub acts_as : Fact → ℕ → Bool
acts_as (fact.Entered k host ticket) op = eqb k op
acts_as (fact.Lent k host conn) op = eqb k op
acts_as (fact.Dialled k host conn stream) op = eqb k op
acts_as (fact.NotLent k host why) op = eqb k op
acts_as (fact.CheckedIn k host conn errored) op = eqb k op
acts_as f op = false

abbrev pub moved_by : Fact → CheckOut → CheckOut
moved_by (fact.Entered k host ticket) h = Waits host ticket
moved_by (fact.Lent k host conn) h = has_by conn h
moved_by (fact.Dialled k host conn stream) h = dials_by conn h
moved_by (fact.NotLent k host why) h = Nothing
moved_by (fact.CheckedIn k host conn errored) h = Nothing
moved_by f h = h

abbrev pub moved : Fact → ℕ → CheckOut → CheckOut
moved f op h = cond (acts_as f op) (moved_by f h) h

out-changed : (cs : List CommandState) (k op : ℕ) (g : CommandState → CommandState) (m : CheckOut → CheckOut) →
    ((c : CommandState) → (g c).check_out ≡ m c.check_out) → out_at (changed cs k g) op ≡ option_map (λ h. cond (eqb k op) (m h) h) (out_at cs op)
out-changed cs k op g m keeps = elim (eqb_tells k op) [
  | inl w ↦ rw w.0 (subst (λ n. out_at (changed cs k g) n ≡ option_map (λ h. m h) (out_at cs n)) w.1 (ap out_in (changed-same cs k g) ∙ own (slice_get cs k)))
  | inr w ↦ rw w.0 (ap out_in (changed-other cs k op g w.1) ∙ sym (option_map_id (out_at cs op)))
] where
  own : (o : Option CommandState) → out_in (option_map g o) ≡ option_map (λ h. m h) (out_in o)
  own None = refl
  own (Some c) = ap (λ h. Some h) (keeps c)

out-kept : (cs : List CommandState) (k op : ℕ) (g : CommandState → CommandState) → ((c : CommandState) → (g c).check_out ≡ c.check_out) →
    out_at (changed cs k g) op ≡ option_map (λ h. h) (out_at cs op)
out-kept cs k op g keeps = changed-keeps out_in cs k op g (λ c. ap (λ h. Some h) (keeps c)) ∙ sym (option_map_id (out_at cs op))

out-same : (cs ds : List CommandState) (op : ℕ) → ds ≡ cs → out_at ds op ≡ option_map (λ h. h) (out_at cs op)
out-same cs ds op e = ap (λ xs. out_at xs op) e ∙ sym (option_map_id (out_at cs op))

out-check_out : (moment : ℕ) (w : ClientState) (f : Fact) (op : ℕ) → out_at (check_out_after moment w f).commands op ≡ option_map (moved f op) (out_at w.commands op)
out-check_out moment w (fact.Entered k host ticket) op = out-changed w.commands k op (waits_now host ticket) (λ h. Waits host ticket) (λ c. refl)
out-check_out moment w (fact.Lent k host conn) op = out-changed w.commands k op (λ c. record c { check_out = has_by conn c.check_out }) (has_by conn) (λ c. refl)
out-check_out moment w (fact.Dialled k host conn stream) op = out-changed w.commands k op (dials_now moment conn) (dials_by conn) (λ c. refl)
out-check_out moment w (fact.NotLent k host why) op = out-changed w.commands k op (λ c. record c { check_out = Nothing }) (λ h. Nothing) (λ c. refl)
out-check_out moment w (fact.CheckedIn k host conn errored) op = out-changed w.commands k op (λ c. record c { check_out = Nothing }) (λ h. Nothing) (λ c. refl)
out-check_out moment w f op = sym (option_map_id (out_at w.commands op))

out-pool : (w : ClientState) (moment : ℕ) (f : Fact) (op : ℕ) → out_at (pool_after w moment f).commands op ≡ option_map (moved f op) (out_at w.commands op)
out-pool w moment f op =
    out-check_out moment (conn_streams_after (pools_after w moment (pool_step w f)) f) f op
    ∙ ap (λ cs. option_map (moved f op) (out_at cs op)) (Beside-pool w moment f).commands

out-asked_by : (moment : ℕ) (p : Purpose) (w : ClientState) (op : ℕ) → out_at (asked_by moment p w).commands op ≡ out_at w.commands op
out-asked_by moment (purpose.Command k) w op = changed-keeps out_in w.commands k op (λ c. record c { asked = Some moment }) (λ c. refl)
out-asked_by moment (purpose.Check host) w op = refl
out-asked_by moment (purpose.Greeting host conn) w op = refl
out-asked_by moment purpose.Farewell w op = refl

look_by-out : (w : ClientState) (moment : ℕ) (h : LookedHow) (c : CommandState) → (look_by w moment h c).check_out ≡ c.check_out
look_by-out w moment looked.NoneFits c = refl
look_by-out w moment (looked.Chosen x) c = refl
look_by-out w moment looked.Failed c = refl
look_by-out w moment (looked.Incompatible x) c = refl

changed-out : (client : Client) (moment : ℕ) (w : ClientState) (f : Fact) (op : ℕ) →
    out_at (changed_by client moment w f).commands op ≡ option_map (moved f op) (out_at w.commands op)
changed-out client moment w (fact.Named x address) op = out-same w.commands w.commands op refl
changed-out client moment w (fact.Dropped x) op = out-same w.commands w.commands op refl
changed-out client moment w (fact.Offered place e taken) op = out-same w.commands _ op (Beside-offered moment e w).commands
changed-out client moment w (fact.PoolReady x) op = out-pool w moment (fact.PoolReady x) op
changed-out client moment w (fact.PoolClear x) op = out-pool w moment (fact.PoolClear x) op
changed-out client moment w (fact.PoolShut x) op =
    ap (λ cs. out_at cs op) (Beside-ends_by x w (pool_after w moment (fact.PoolShut x))).commands ∙ out-pool w moment (fact.PoolShut x) op
changed-out client moment w (fact.CheckBegan x stream) op = out-same w.commands _ op (Beside-stream_taken (kept_at w x) stream w).commands
changed-out client moment w (fact.CheckDry x) op = out-same w.commands w.commands op refl
changed-out client moment w (fact.CheckEnded x h) op = out-same w.commands w.commands op refl
changed-out client moment w (fact.Looked k a b kept picked) op =
    out-kept (look_asks moment picked w).commands k op (look_by w moment picked) (look_by-out w moment picked)
    ∙ ap (λ cs. option_map (λ h. h) (out_at cs op)) (Beside-look_asks moment picked w).commands
changed-out client moment w (fact.Entered k x ticket) op = out-pool w moment (fact.Entered k x ticket) op
changed-out client moment w (fact.Lent k x conn) op = out-pool w moment (fact.Lent k x conn) op
changed-out client moment w (fact.Dialled k x conn stream) op = out-pool w moment (fact.Dialled k x conn stream) op
changed-out client moment w (fact.Settled k x conn stale) op = out-pool w moment (fact.Settled k x conn stale) op
changed-out client moment w (fact.NotLent k x why) op = out-pool w moment (fact.NotLent k x why) op
changed-out client moment w (fact.CheckedIn k x conn errored) op = out-pool w moment (fact.CheckedIn k x conn errored) op
changed-out client moment w (fact.ConnShut x conn reason) op = out-pool w moment (fact.ConnShut x conn reason) op
changed-out client moment w (fact.Leased k place lsid fresh) op = out-kept w.commands k op (λ c. record c { session = Some place }) (λ c. refl)
changed-out client moment w (fact.Drew k number) op = out-kept w.commands k op (λ c. record c { number = Some number }) (λ c. refl)
changed-out client moment w (fact.Returned k dirty kept) op = out-kept w.commands k op (λ c. record c { session = None }) (λ c. refl)
changed-out client moment w (fact.Asked place r) op =
    let v : ClientState = record w { requests = w.requests + 1 } in
    out-asked_by moment r.purpose (farewell_by r.purpose r.stream v) op
    ∙ out-same w.commands (farewell_by r.purpose r.stream v).commands op (Beside-farewell_by r.purpose r.stream v).commands
changed-out client moment w (fact.Ended k end) op = out-kept w.commands k op (end_by end) (λ c. refl)
changed-out client moment w (fact.Time stamp) op = out-same w.commands w.commands op refl
changed-out client moment w (fact.Finished k outcome) op = out-kept w.commands k op finished (λ c. refl)

out-commands_after : (o : Option OfCommand) (v : ClientState) (op : ℕ) → out_at (commands_after o v).commands op ≡ out_at v.commands op
out-commands_after None v op = refl
out-commands_after (Some e) v op = changed-keeps out_in v.commands e.0 op (with_event e.1) (λ c. refl)

pub out-step : (client : Client) (moment : ℕ) (w : ClientState) (f : Fact) (op : ℕ) →
    out_at (client_after client moment w f).commands op ≡ option_map (moved f op) (out_at w.commands op)
out-step client moment w f op =
    out-commands_after (command_step client w f) (changed_by client moment w f) op ∙ changed-out client moment w f op

-- ---- The pool has each command so

abbrev pub Outs : Type 0
Outs = ℕ → Option CheckOut

abbrev pub Places : Type 0
Places = ℕ → Place Pool PoolEntry

abbrev pub HoldsIn : Places → CheckOut → Type 0
HoldsIn q Nothing = Unit {0}
HoldsIn q (Waits host ticket) = IsWaiting (q host).state ticket
HoldsIn q (Dials host ticket conn) = IsDialling (q host).state (q host).owed conn ticket
HoldsIn q (Has host ticket conn) = IsHeldBy (q host).state.lent conn ticket

-- a command has a ticket of a host
pub record Tick (outs : Outs) (op host ticket : ℕ) : Type 0 where
  pub out : CheckOut
  pub there : outs op ≡ Some out
  pub has : ticket_with host out ≡ Some ticket

pub record Matched (outs : Outs) (q : Places) : Type 0 where
  pub once : (a b host ticket : ℕ) → Tick outs a host ticket → Tick outs b host ticket → a ≡ b
  pub below : (op host ticket : ℕ) → Tick outs op host ticket → ticket < (q host).state.entered
  pub holds : (op : ℕ) (h : CheckOut) → outs op ≡ Some h → HoldsIn q h
  pub ok : (host : ℕ) → AllOk (q host).state (q host).owed

-- an entry of the pool of a host moves it
pub record Moves (q r : Places) (x moment : ℕ) (e : PoolEntry) : Type 0 where
  pub stands : Stands pool_judge (q x) (record { at = moment; what = e })
  pub here : r x ≡ next_place pool_judge (q x) (record { at = moment; what = e })
  pub others : (host : ℕ) → (x ≡ host → ⊥) → r host ≡ q host
  pub once : IsOnce (r x).state

-- it takes nothing of the ticket
pub record Frees (ticket : ℕ) (e : PoolEntry) : Type 0 where
  pub takes : takes ticket e ≡ false
  pub pays : pays ticket e ≡ false
  pub gives : gives ticket e ≡ false

waits-on : (q r : Places) (x moment : ℕ) (e : PoolEntry) → Moves q r x moment e → (host ticket : ℕ) → (host ≡ x → takes ticket e ≡ false) →
    IsWaiting (q host).state ticket → IsWaiting (r host).state ticket
waits-on q r x moment e m host ticket n h = elim (eqb_tells host x) [
  | inl w ↦
      let at : IsWaiting (q x).state ticket = subst (λ k. IsWaiting (q k).state ticket) w.1 h in
      subst (λ (p : Place Pool PoolEntry). IsWaiting p.state ticket) (sym (ap r w.1 ∙ m.here)) (waits-behind (q x).state (q x).owed moment e ticket (n w.1) at)
  | inr w ↦ subst (λ (p : Place Pool PoolEntry). IsWaiting p.state ticket) (sym (m.others host (λ s. w.1 (sym s)))) h
]

pub dials-on : (q r : Places) (x moment : ℕ) (e : PoolEntry) → Moves q r x moment e → (host ticket conn : ℕ) → (host ≡ x → pays ticket e ≡ false) →
    IsDialling (q host).state (q host).owed conn ticket → IsDialling (r host).state (r host).owed conn ticket
dials-on q r x moment e m host ticket conn n h = elim (eqb_tells host x) [
  | inl w ↦
      let at : IsDialling (q x).state (q x).owed conn ticket = subst (λ k. IsDialling (q k).state (q k).owed conn ticket) w.1 h in
      subst (λ (p : Place Pool PoolEntry). IsDialling p.state p.owed conn ticket) (sym (ap r w.1 ∙ m.here))
      (dials-behind (q x).state (q x).owed moment e conn ticket m.stands (n w.1) at)
  | inr w ↦ subst (λ (p : Place Pool PoolEntry). IsDialling p.state p.owed conn ticket) (sym (m.others host (λ s. w.1 (sym s)))) h
]

pub has-on : (q r : Places) (x moment : ℕ) (e : PoolEntry) → Moves q r x moment e → (host ticket conn : ℕ) → (host ≡ x → gives ticket e ≡ false) →
    IsHeldBy (q host).state.lent conn ticket → IsHeldBy (r host).state.lent conn ticket
has-on q r x moment e m host ticket conn n h = elim (eqb_tells host x) [
  | inl w ↦
      let at : IsHeldBy (q x).state.lent conn ticket = subst (λ k. IsHeldBy (q k).state.lent conn ticket) w.1 h in
      subst (λ (p : Place Pool PoolEntry). IsHeldBy p.state.lent conn ticket) (sym (ap r w.1 ∙ m.here))
      (has-behind (q x).state (q x).owed moment e conn ticket m.stands (n w.1) at)
  | inr w ↦ subst (λ (p : Place Pool PoolEntry). IsHeldBy p.state.lent conn ticket) (sym (m.others host (λ s. w.1 (sym s)))) h
]

ticket-at : (host x ticket : ℕ) → host ≡ x → cond (eqb host x) (Some ticket) None ≡ Some ticket
ticket-at host x ticket e = rw (eq-eqb host x e) refl

pub holds-on : (q r : Places) (x moment : ℕ) (e : PoolEntry) → Moves q r x moment e → (h : CheckOut) → ((ticket : ℕ) → ticket_with x h ≡ Some ticket → Frees ticket e) →
    HoldsIn q h → HoldsIn r h
holds-on q r x moment e m Nothing n i = tt
holds-on q r x moment e m (Waits host ticket) n i = waits-on q r x moment e m host ticket (λ s. (n ticket (ticket-at host x ticket s)).takes) i
holds-on q r x moment e m (Dials host ticket conn) n i = dials-on q r x moment e m host ticket conn (λ s. (n ticket (ticket-at host x ticket s)).pays) i
holds-on q r x moment e m (Has host ticket conn) n i = has-on q r x moment e m host ticket conn (λ s. (n ticket (ticket-at host x ticket s)).gives) i

ok-on : (outs : Outs) (q r : Places) (x moment : ℕ) (e : PoolEntry) → Moves q r x moment e → Matched outs q → (host : ℕ) → AllOk (r host).state (r host).owed
ok-on outs q r x moment e m h host = elim (eqb_tells x host) [
  | inl w ↦
      subst (λ k. AllOk (r k).state (r k).owed) w.1
      (subst (λ (p : Place Pool PoolEntry). AllOk p.state p.owed) (sym m.here)
      (ok-behind (q x).state (q x).owed moment e m.stands (h.ok x) (subst (λ (p : Place Pool PoolEntry). IsOnce p.state) m.here m.once)))
  | inr w ↦ subst (λ (p : Place Pool PoolEntry). AllOk p.state p.owed) (sym (m.others host w.1)) (h.ok host)
]

rises-on : (q r : Places) (x moment : ℕ) (e : PoolEntry) → Moves q r x moment e → (host : ℕ) → (q host).state.entered ≤ (r host).state.entered
rises-on q r x moment e m host = elim (eqb_tells x host) [
  | inl w ↦
      subst (λ k. (q k).state.entered ≤ (r k).state.entered) w.1
      (subst (λ (p : Place Pool PoolEntry). (q x).state.entered ≤ p.state.entered) (sym m.here) (entered-rises (q x).state (q x).owed moment e))
  | inr w ↦ subst (λ (p : Place Pool PoolEntry). (q host).state.entered ≤ p.state.entered) (sym (m.others host w.1)) (omega arith)
]

-- where a command was that is so behind the entry
pub was : (g : CheckOut → CheckOut) (o p : Option CheckOut) (h : CheckOut) → p ≡ option_map g o → p ≡ Some h → (k : CheckOut) × (o ≡ Some k) × (h ≡ g k)
was g None p h e f = absurd (cc)
was g (Some k) p h e f = (k, refl, let one : Some h ≡ Some (g k) = sym f ∙ e in cc)

-- tickets stay, or one enters
pub record Enters (q r : Places) (actor x op host ticket : ℕ) : Type 0 where
  pub by : op ≡ actor
  pub at : host ≡ x
  pub new : ticket ≡ (q x).state.entered
  pub counted : ticket < (r x).state.entered

pub matched-on : (outs after : Outs) (q r : Places) (x moment : ℕ) (e : PoolEntry) (actor : ℕ) → Moves q r x moment e → Matched outs q →
    ((op host ticket : ℕ) → Tick after op host ticket → Tick outs op host ticket ⊎ Enters q r actor x op host ticket) →
    ((op : ℕ) (h : CheckOut) → after op ≡ Some h → HoldsIn r h) → Matched after r
matched-on outs after q r x moment e actor m h ticks holds = record {
  once = λ a b host ticket s t. elim (ticks a host ticket s) [
    | inl u ↦ elim (ticks b host ticket t) [
      | inl v ↦ h.once a b host ticket u v
      | inr v ↦ absurd (new-differs a host ticket u b v)
    ]
    | inr u ↦ elim (ticks b host ticket t) [
      | inl v ↦ absurd (new-differs b host ticket v a u)
      | inr v ↦ u.by ∙ sym v.by
    ]
  ];
  below = λ op host ticket s. elim (ticks op host ticket s) [
    | inl u ↦ let old = h.below op host ticket u in let rise = rises-on q r x moment e m host in omega arith
    | inr u ↦ subst (λ n. ticket < (r n).state.entered) (sym u.at) u.counted
  ];
  holds = holds;
  ok = ok-on outs q r x moment e m h;
} where
  new-differs : (a host ticket : ℕ) → Tick outs a host ticket → (b : ℕ) → Enters q r actor x b host ticket → ⊥
  new-differs a host ticket u b v =
      let old : ticket < (q x).state.entered = subst (λ n. ticket < (q n).state.entered) v.at (h.below a host ticket u) in
      let new = v.new in
      absurd (omega arith)

-- an entry that moves no command
pub matched-alone : (outs after : Outs) (q r : Places) (x moment : ℕ) (e : PoolEntry) → Moves q r x moment e → Matched outs q →
    ((op : ℕ) → after op ≡ outs op) → ((ticket : ℕ) → Frees ticket e) → Matched after r
matched-alone outs after q r x moment e m h same frees =
    matched-on outs after q r x moment e 0 m h
    (λ op host ticket t. inl (record { out = t.out; there = sym (same op) ∙ t.there; has = t.has }))
    (λ op k there. holds-on q r x moment e m k (λ ticket _. frees ticket) (h.holds op k (sym (same op) ∙ there)))

-- one of a command that has a ticket there
pub record Acting (outs : Outs) (r : Places) (f : Fact) (x : ℕ) (e : PoolEntry) : Type 0 where
  pub actor : ℕ
  pub ticket : ℕ
  pub tick : Tick outs actor x ticket
  pub only : (op : ℕ) → acts_as f op ≡ eqb actor op
  pub frees : (other : ℕ) → (ticket ≡ other → ⊥) → Frees other e
  pub keeps : (h : CheckOut) (host t : ℕ) → ticket_with host (moved_by f h) ≡ Some t → ticket_with host h ≡ Some t
  pub becomes : HoldsIn r (moved_by f tick.out)

pub matched-acting : (outs after : Outs) (q r : Places) (f : Fact) (x moment : ℕ) (e : PoolEntry) → Moves q r x moment e → Matched outs q →
    ((op : ℕ) → after op ≡ option_map (moved f op) (outs op)) → Acting outs r f x e → Matched after r
matched-acting outs after q r f x moment e m h moves a =
    matched-on outs after q r x moment e a.actor m h
    (λ op host ticket t. let w = was (moved f op) (outs op) (after op) t.out (moves op) t.there in inl (ticks op host ticket w.0 w.1 (ap (ticket_with host) (sym w.2) ∙ t.has)))
    (λ op k there. let w = was (moved f op) (outs op) (after op) k (moves op) there in subst (HoldsIn r) (sym w.2) (holds op w.0 w.1)) where
      ticks : (op host ticket : ℕ) (k : CheckOut) → outs op ≡ Some k → ticket_with host (moved f op k) ≡ Some ticket → Tick outs op host ticket
      ticks op host ticket k there has = record {
        out = k;
        there = there;
        has = elim (acts_as f op) as (λ b. ticket_with host (cond b (moved_by f k) k) ≡ Some ticket → ticket_with host k ≡ Some ticket) [
          | true ↦ λ g. a.keeps k host ticket g
          | false ↦ λ g. g
        ] has;
      }

      holds : (op : ℕ) (k : CheckOut) → outs op ≡ Some k → HoldsIn r (moved f op k)
      holds op k there = elim (eqb_tells a.actor op) [
        | inl w ↦
            let yes : acts_as f op ≡ true = a.only op ∙ w.0 in
            let same : a.tick.out ≡ k = let s = a.tick.there in let t : outs a.actor ≡ Some k = ap outs w.1 ∙ there in cc in
            rw yes (subst (λ y. HoldsIn r (moved_by f y)) same a.becomes)
        | inr w ↦
            let no : acts_as f op ≡ false = a.only op ∙ w.0 in
            rw no (holds-on q r x moment e m k
            (λ ticket has. a.frees ticket (λ s. w.1 (h.once a.actor op x ticket (record { out = a.tick.out; there = a.tick.there; has = a.tick.has ∙ ap (λ y. Some y) s })
            (record { out = k; there = there; has = has }))))
            (h.holds op k there))
      ]
