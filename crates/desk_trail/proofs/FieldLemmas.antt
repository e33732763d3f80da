-- A part of each command that only leases, draws, returns and answers change.
use Rattle.std.proofs.Common.{◌≡◌, ℕ, ◌+◌, Bool, true, false, List, Option, None, Some, refl, ap, ◌∙◌}
use Rattle.std.specs.Prelude.{slice_get}
use Rattle.std.specs.Option.{option_map}
use Rattle.write_retry.specs.declared.attempt_end.AttemptEnd.{AttemptEnd}
use Rattle.write_retry.specs.declared.events.OpEvent.{OpEvent}
use Rattle.desk_trail.specs.declared.entry.LookedHow.{LookedHow}
use Rattle.desk_trail.specs.declared.request.Purpose.{Purpose}
use Rattle.desk_trail.specs.declared.request.Purpose.TheVariants as purpose
use Rattle.desk_trail.specs.Attempts.{OfCommand, asked_by, command_step, commands_after, end_by, with_event}
use Rattle.desk_trail.specs.Checks.{kept_at}
use Rattle.desk_trail.specs.Clients.{Client}
use Rattle.desk_trail.specs.Facts.{Fact}
use Rattle.desk_trail.specs.Facts as fact
use Rattle.desk_trail.specs.Legal.{changed_by, client_after, pool_after}
use Rattle.desk_trail.specs.Looks.{look_asks, look_by}
use Rattle.desk_trail.specs.Pools.{check_out_after, conn_streams_after, dials_by, dials_now, has_by, pool_step, pools_after, waits_now}
use Rattle.desk_trail.specs.Requests.{farewell_by}
use Rattle.desk_trail.specs.States.{CheckOut, ClientState, CommandState, Nothing, Waits, changed}
use Rattle.desk_trail.proofs.ListLemmas.{changed-keeps}
use Rattle.desk_trail.proofs.RestLemmas.{Beside-ends_by, Beside-farewell_by, Beside-look_asks, Beside-offered, Beside-pool, Beside-stream_taken}

abbrev pub read : {B : Type 0} → (CommandState → B) → List CommandState → ℕ → Option B
read r cs op = option_map r (slice_get cs op)

-- no other entry changes it
pub record Apart {B : Type 0} (r : CommandState → B) : Type 0 where
  pub outs : (c : CommandState) (h : CheckOut) → r (record c { check_out = h }) ≡ r c
  pub dials : (moment conn : ℕ) (c : CommandState) → r (dials_now moment conn c) ≡ r c
  pub asks : (c : CommandState) (m : Option ℕ) → r (record c { asked = m }) ≡ r c
  pub looks : (w : ClientState) (moment : ℕ) (h : LookedHow) (c : CommandState) → r (look_by w moment h c) ≡ r c
  pub ends : (end : AttemptEnd) (c : CommandState) → r (end_by end c) ≡ r c
  pub events : (e : OpEvent) (c : CommandState) → r (with_event e c) ≡ r c

pub kept : {B : Type 0} (r : CommandState → B) (cs : List CommandState) (k op : ℕ) (g : CommandState → CommandState) → ((c : CommandState) → r (g c) ≡ r c) →
    read r (changed cs k g) op ≡ read r cs op
kept r cs k op g keeps = changed-keeps (λ o. option_map r o) cs k op g (λ c. ap (λ x. Some x) (keeps c))

abbrev pub is_plain : Fact → Bool
is_plain (fact.Leased op place lsid fresh) = false
is_plain (fact.Drew op number) = false
is_plain (fact.Returned op dirty kept) = false
is_plain (fact.Finished op outcome) = false
is_plain f = true

check_out-kept : {B : Type 0} (r : CommandState → B) → Apart r → (moment : ℕ) (w : ClientState) (f : Fact) (op : ℕ) → read r (check_out_after moment w f).commands op ≡ read r w.commands op
check_out-kept r a moment w (fact.Entered k host ticket) op = kept r w.commands k op (waits_now host ticket) (λ c. a.outs c (Waits host ticket))
check_out-kept r a moment w (fact.Lent k host conn) op = kept r w.commands k op (λ c. record c { check_out = has_by conn c.check_out }) (λ c. a.outs c (has_by conn c.check_out))
check_out-kept r a moment w (fact.Dialled k host conn stream) op = kept r w.commands k op (dials_now moment conn) (a.dials moment conn)
check_out-kept r a moment w (fact.NotLent k host why) op = kept r w.commands k op (λ c. record c { check_out = Nothing }) (λ c. a.outs c Nothing)
check_out-kept r a moment w (fact.CheckedIn k host conn errored) op = kept r w.commands k op (λ c. record c { check_out = Nothing }) (λ c. a.outs c Nothing)
check_out-kept r a moment w f op = refl

pool-kept : {B : Type 0} (r : CommandState → B) → Apart r → (w : ClientState) (moment : ℕ) (f : Fact) (op : ℕ) → read r (pool_after w moment f).commands op ≡ read r w.commands op
pool-kept r a w moment f op =
    check_out-kept r a moment (conn_streams_after (pools_after w moment (pool_step w f)) f) f op
    ∙ ap (λ cs. read r cs op) (Beside-pool w moment f).commands

asked-kept : {B : Type 0} (r : CommandState → B) → Apart r → (moment : ℕ) (p : Purpose) (w : ClientState) (op : ℕ) → read r (asked_by moment p w).commands op ≡ read r w.commands op
asked-kept r a moment (purpose.Command k) w op = kept r w.commands k op (λ c. record c { asked = Some moment }) (λ c. a.asks c (Some moment))
asked-kept r a moment (purpose.Check host) w op = refl
asked-kept r a moment (purpose.Greeting host conn) w op = refl
asked-kept r a moment purpose.Farewell w op = refl

changed-kept : {B : Type 0} (r : CommandState → B) → Apart r → (client : Client) (moment : ℕ) (w : ClientState) (f : Fact) (op : ℕ) → is_plain f ≡ true →
    read r (changed_by client moment w f).commands op ≡ read r w.commands op
changed-kept r a client moment w (fact.Named x address) op q = refl
changed-kept r a client moment w (fact.Dropped x) op q = refl
changed-kept r a client moment w (fact.Offered place e taken) op q = ap (λ cs. read r cs op) (Beside-offered moment e w).commands
changed-kept r a client moment w (fact.PoolReady x) op q = pool-kept r a w moment (fact.PoolReady x) op
changed-kept r a client moment w (fact.PoolClear x) op q = pool-kept r a w moment (fact.PoolClear x) op
changed-kept r a client moment w (fact.PoolShut x) op q =
    ap (λ cs. read r cs op) (Beside-ends_by x w (pool_after w moment (fact.PoolShut x))).commands ∙ pool-kept r a w moment (fact.PoolShut x) op
changed-kept r a client moment w (fact.CheckBegan x stream) op q = ap (λ cs. read r cs op) (Beside-stream_taken (kept_at w x) stream w).commands
changed-kept r a client moment w (fact.CheckDry x) op q = refl
changed-kept r a client moment w (fact.CheckEnded x h) op q = refl
changed-kept r a client moment w (fact.Looked k x y ks picked) op q =
    kept r (look_asks moment picked w).commands k op (look_by w moment picked) (a.looks w moment picked)
    ∙ ap (λ cs. read r cs op) (Beside-look_asks moment picked w).commands
changed-kept r a client moment w (fact.Entered k x ticket) op q = pool-kept r a w moment (fact.Entered k x ticket) op
changed-kept r a client moment w (fact.Lent k x conn) op q = pool-kept r a w moment (fact.Lent k x conn) op
changed-kept r a client moment w (fact.Dialled k x conn stream) op q = pool-kept r a w moment (fact.Dialled k x conn stream) op
changed-kept r a client moment w (fact.Settled k x conn stale) op q = pool-kept r a w moment (fact.Settled k x conn stale) op
changed-kept r a client moment w (fact.NotLent k x why) op q = pool-kept r a w moment (fact.NotLent k x why) op
changed-kept r a client moment w (fact.CheckedIn k x conn errored) op q = pool-kept r a w moment (fact.CheckedIn k x conn errored) op
changed-kept r a client moment w (fact.ConnShut x conn reason) op q = pool-kept r a w moment (fact.ConnShut x conn reason) op
changed-kept r a client moment w (fact.Leased k place lsid fresh) op q = absurd (cc)
changed-kept r a client moment w (fact.Drew k number) op q = absurd (cc)
changed-kept r a client moment w (fact.Returned k dirty ks) op q = absurd (cc)
changed-kept r a client moment w (fact.Asked place x) op q =
    let v : ClientState = record w { requests = w.requests + 1 } in
    asked-kept r a moment x.purpose (farewell_by x.purpose x.stream v) op ∙ ap (λ cs. read r cs op) (Beside-farewell_by x.purpose x.stream v).commands
changed-kept r a client moment w (fact.Ended k end) op q = kept r w.commands k op (end_by end) (a.ends end)
changed-kept r a client moment w (fact.Time stamp) op q = refl
changed-kept r a client moment w (fact.Finished k outcome) op q = absurd (cc)

pub event-kept : {B : Type 0} (r : CommandState → B) → Apart r → (o : Option OfCommand) (v : ClientState) (op : ℕ) → read r (commands_after o v).commands op ≡ read r v.commands op
event-kept r a None v op = refl
event-kept r a (Some e) v op = kept r v.commands e.0 op (with_event e.1) (a.events e.1)

pub plain-kept : {B : Type 0} (r : CommandState → B) → Apart r → (client : Client) (moment : ℕ) (w : ClientState) (f : Fact) (op : ℕ) → is_plain f ≡ true →
    read r (client_after client moment w f).commands op ≡ read r w.commands op
plain-kept r a client moment w f op q =
    event-kept r a (command_step client w f) (changed_by client moment w f) op ∙ changed-kept r a client moment w f op q
