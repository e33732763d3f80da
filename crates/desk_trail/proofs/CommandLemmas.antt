-- The events of a command are a history of it, which leads to what the client has of it.
use Rattle.std.proofs.Common.{◌≡◌, ℕ, ◌+◌, true, List, Option, None, Some, refl, sym, ap, ◌∙◌, subst, inl, inr}
use Rattle.std.specs.Prelude.{slice_get, map}
use Rattle.std.specs.Option.{option_map, option_map_or}
use Rattle.std.proofs.lemmas.Bool.Decides.{eqb_tells}
use Rattle.std.proofs.lemmas.Option.{slice_get-map}
use Rattle.entry_judge.specs.declared.timed.Timed.{Timed}
use Rattle.cmd_build.specs.declared.command.Command.{Command}
use Rattle.cmd_build.specs.Ops.{writes, retries}
use Rattle.write_retry.specs.Histories.{behind}
use Rattle.write_retry.specs.Machine.{Op, allows, new_op}
use Rattle.write_retry.specs.Machine as machine
use Rattle.write_retry.specs.declared.events.OpEvent.{OpEvent}
use Rattle.desk_trail.specs.declared.entry.LookedHow.{LookedHow}
use Rattle.desk_trail.specs.declared.entry.LookedHow.TheVariants as looked
use Rattle.desk_trail.specs.declared.request.Purpose.{Purpose}
use Rattle.desk_trail.specs.declared.request.Purpose.TheVariants as purpose
use Rattle.desk_trail.specs.Attempts.{CommandAllows, OfCommand, asked_by, command_step, commands_after, end_by, finished, with_event}
use Rattle.desk_trail.specs.Checks.{kept_at}
use Rattle.desk_trail.specs.Clients.{Client}
use Rattle.desk_trail.specs.Facts.{Fact}
use Rattle.desk_trail.specs.Facts as fact
use Rattle.desk_trail.specs.Legal.{AreLegal, Point, StandsAt, beginning, changed_by, point_after, point_behind, pool_after}
use Rattle.desk_trail.specs.Looks.{look_asks, look_by}
use Rattle.desk_trail.specs.Parts.{command_tells, events_of, of_command}
use Rattle.desk_trail.specs.Pools.{check_out_after, conn_streams_after, dials_now, has_by, pool_step, pools_after, waits_now}
use Rattle.desk_trail.specs.Requests.{farewell_by}
use Rattle.desk_trail.specs.States.{ClientState, CommandState, Nothing, changed, fresh_command}
use Rattle.desk_trail.proofs.ListLemmas.{changed-keeps, changed-other, changed-same}
use Rattle.desk_trail.proofs.PartLemmas.{Leads, told-leads}
use Rattle.desk_trail.proofs.RestLemmas.{Beside-ends_by, Beside-farewell_by, Beside-look_asks, Beside-offered, Beside-pool, Beside-stream_taken}

-- ---- What a command came to

abbrev pub op_in : Option CommandState → Option Op
op_in o = option_map (λ (c : CommandState). c.op) o

abbrev pub op_at : List CommandState → ℕ → Option Op
op_at cs op = op_in (slice_get cs op)

-- each entry leaves it to the command's events
op-changed : (cs : List CommandState) (k op : ℕ) (f : CommandState → CommandState) → ((c : CommandState) → (f c).op ≡ c.op) →
    op_at (changed cs k f) op ≡ op_at cs op
op-changed cs k op f keeps = changed-keeps op_in cs k op f (λ c. ap (λ x. Some x) (keeps c))

op-check_out : (moment : ℕ) (w : ClientState) (f : Fact) (op : ℕ) → op_at (check_out_after moment w f).commands op ≡ op_at w.commands op
op-check_out moment w (fact.Entered k host ticket) op = op-changed w.commands k op (waits_now host ticket) (λ c. refl)
op-check_out moment w (fact.Lent k host conn) op = op-changed w.commands k op (λ c. record c { check_out = has_by conn c.check_out }) (λ c. refl)
op-check_out moment w (fact.Dialled k host conn stream) op = op-changed w.commands k op (dials_now moment conn) (λ c. refl)
op-check_out moment w (fact.NotLent k host why) op = op-changed w.commands k op (λ c. record c { check_out = Nothing }) (λ c. refl)
op-check_out moment w (fact.CheckedIn k host conn errored) op = op-changed w.commands k op (λ c. record c { check_out = Nothing }) (λ c. refl)
op-check_out moment w f op = refl

op-pool : (w : ClientState) (moment : ℕ) (f : Fact) (op : ℕ) → op_at (pool_after w moment f).commands op ≡ op_at w.commands op
op-pool w moment f op =
    op-check_out moment (conn_streams_after (pools_after w moment (pool_step w f)) f) f op
    ∙ ap (λ cs. op_at cs op) (Beside-pool w moment f).commands

op-asked_by : (moment : ℕ) (p : Purpose) (w : ClientState) (op : ℕ) → op_at (asked_by moment p w).commands op ≡ op_at w.commands op
op-asked_by moment (purpose.Command k) w op = op-changed w.commands k op (λ c. record c { asked = Some moment }) (λ c. refl)
op-asked_by moment (purpose.Check host) w op = refl
op-asked_by moment (purpose.Greeting host conn) w op = refl
op-asked_by moment purpose.Farewell w op = refl

look_by-op : (w : ClientState) (moment : ℕ) (h : LookedHow) (c : CommandState) → (look_by w moment h c).op ≡ c.op
look_by-op w moment looked.NoneFits c = refl
look_by-op w moment (looked.Chosen x) c = refl
look_by-op w moment looked.Failed c = refl
look_by-op w moment (looked.Incompatible x) c = refl

pub changed-op : (client : Client) (moment : ℕ) (w : ClientState) (f : Fact) (op : ℕ) → op_at (changed_by client moment w f).commands op ≡ op_at w.commands op
changed-op client moment w (fact.Named x address) op = refl
changed-op client moment w (fact.Dropped x) op = refl
changed-op client moment w (fact.Offered place e taken) op = ap (λ cs. op_at cs op) (Beside-offered moment e w).commands
changed-op client moment w (fact.PoolReady x) op = op-pool w moment (fact.PoolReady x) op
changed-op client moment w (fact.PoolClear x) op = op-pool w moment (fact.PoolClear x) op
changed-op client moment w (fact.PoolShut x) op =
    ap (λ cs. op_at cs op) (Beside-ends_by x w (pool_after w moment (fact.PoolShut x))).commands ∙ op-pool w moment (fact.PoolShut x) op
changed-op client moment w (fact.CheckBegan x stream) op = ap (λ cs. op_at cs op) (Beside-stream_taken (kept_at w x) stream w).commands
changed-op client moment w (fact.CheckDry x) op = refl
changed-op client moment w (fact.CheckEnded x h) op = refl
changed-op client moment w (fact.Looked k a b kept picked) op =
    op-changed (look_asks moment picked w).commands k op (look_by w moment picked) (look_by-op w moment picked)
    ∙ ap (λ cs. op_at cs op) (Beside-look_asks moment picked w).commands
changed-op client moment w (fact.Entered k x ticket) op = op-pool w moment (fact.Entered k x ticket) op
changed-op client moment w (fact.Lent k x conn) op = op-pool w moment (fact.Lent k x conn) op
changed-op client moment w (fact.Dialled k x conn stream) op = op-pool w moment (fact.Dialled k x conn stream) op
changed-op client moment w (fact.Settled k x conn stale) op = op-pool w moment (fact.Settled k x conn stale) op
changed-op client moment w (fact.NotLent k x why) op = op-pool w moment (fact.NotLent k x why) op
changed-op client moment w (fact.CheckedIn k x conn errored) op = op-pool w moment (fact.CheckedIn k x conn errored) op
changed-op client moment w (fact.ConnShut x conn reason) op = op-pool w moment (fact.ConnShut x conn reason) op
changed-op client moment w (fact.Leased k place lsid fresh) op = op-changed w.commands k op (λ c. record c { session = Some place }) (λ c. refl)
changed-op client moment w (fact.Drew k number) op = op-changed w.commands k op (λ c. record c { number = Some number }) (λ c. refl)
changed-op client moment w (fact.Returned k dirty kept) op = op-changed w.commands k op (λ c. record c { session = None }) (λ c. refl)
changed-op client moment w (fact.Asked place r) op =
    let v : ClientState = record w { requests = w.requests + 1 } in
    op-asked_by moment r.purpose (farewell_by r.purpose r.stream v) op ∙ ap (λ cs. op_at cs op) (Beside-farewell_by r.purpose r.stream v).commands
changed-op client moment w (fact.Ended k end) op = op-changed w.commands k op (end_by end) (λ c. refl)
changed-op client moment w (fact.Time stamp) op = refl
changed-op client moment w (fact.Finished k outcome) op = op-changed w.commands k op finished (λ c. refl)

-- ---- A command's events move it alone

abbrev Allows : Op → OpEvent → Type 0
Allows c e = allows c.next e ≡ true

abbrev pub op_or : Op → Option Op → Op
op_or d o = option_map_or (λ c. c) o d

event-op : (e : OpEvent) (o : Option CommandState) (c : Op) → op_in o ≡ Some c → op_in (option_map (with_event e) o) ≡ Some (machine.after c e)
event-op e None c h = absurd (cc)
event-op e (Some x) c h = let same : x.op ≡ c = cc in ap (λ y. Some (machine.after y e)) same

command-moves : (d : Op) (op : ℕ) (w v : ClientState) (o : Option OfCommand) → op_at v.commands op ≡ op_at w.commands op →
    ((e : OfCommand) → op_at v.commands e.0 ≡ op_at w.commands e.0) → CommandAllows w o →
    Leads Allows machine.after (op_or d (op_at w.commands op)) (of_command op o) (op_or d (op_at (commands_after o v).commands op))
command-moves d op w v None here each a = record { legal = tt; to = ap (op_or d) here }
command-moves d op w v (Some e) here each (c, there, allowed) = elim (eqb_tells e.0 op) [
  | inl x ↦
      let at : op_at w.commands e.0 ≡ Some c.op = ap op_in there in
      let old : op_or d (op_at w.commands op) ≡ c.op = subst (λ n. op_or d (op_at w.commands n) ≡ c.op) x.1 (ap (op_or d) at) in
      let moved : op_at (changed v.commands e.0 (with_event e.1)) e.0 ≡ Some (machine.after c.op e.1) =
      ap op_in (changed-same v.commands e.0 (with_event e.1)) ∙ event-op e.1 (slice_get v.commands e.0) c.op (each e ∙ at) in
      let new : op_or d (op_at (changed v.commands e.0 (with_event e.1)) op) ≡ machine.after c.op e.1 =
      subst (λ n. op_or d (op_at (changed v.commands e.0 (with_event e.1)) n) ≡ machine.after c.op e.1) x.1 (ap (op_or d) moved) in
      rw x.0 (record {
        legal = (subst (λ y. Allows y e.1) (sym old) allowed, tt);
        to = new ∙ ap (λ y. machine.after y e.1) (sym old);
      })
  | inr x ↦ rw x.0 (record { legal = tt; to = ap (λ o. op_or d (op_in o)) (changed-other v.commands e.0 op (with_event e.1) x.1) ∙ ap (op_or d) here })
]

command-step-leads : (client : Client) (d : Op) (op : ℕ) (p : Point) (t : Timed Fact) → StandsAt client p t →
    Leads Allows machine.after (op_or d (op_at p.state.commands op)) (command_tells client op p t) (op_or d (op_at (point_after client p t).state.commands op))
command-step-leads client d op p t s =
    command-moves d op p.state (changed_by client t.at p.state t.what) (command_step client p.state t.what)
    (changed-op client t.at p.state t.what op) (λ e. changed-op client t.at p.state t.what e.0) s.command

-- ---- The history of a command

begins : (client : Client) (op : ℕ) (command : Command) → slice_get client.commands op ≡ Some command →
    op_at (map fresh_command client.commands) op ≡ Some (new_op (writes command.act) (retries command.act))
begins client op command given = ap op_in (slice_get-map fresh_command client.commands op ∙ ap (λ o. option_map fresh_command o) given)

pub command-leads : (client : Client) (op : ℕ) (command : Command) (ts : List (Timed Fact)) → slice_get client.commands op ≡ Some command → AreLegal client ts →
    let d = new_op (writes command.act) (retries command.act) in
    Leads Allows machine.after d (events_of client op ts) (op_or d (op_at (point_behind client ts).state.commands op))
command-leads client op command ts given l =
    let d = new_op (writes command.act) (retries command.act) in
    subst (λ c. Leads Allows machine.after c (events_of client op ts) (op_or d (op_at (point_behind client ts).state.commands op)))
    (ap (op_or d) (begins client op command given))
    (told-leads client (command_tells client op) Allows machine.after (λ p. op_or d (op_at p.state.commands op)) (command-step-leads client d op) (beginning client) ts l)

pub command-behind : (client : Client) (op : ℕ) (command : Command) (ts : List (Timed Fact)) (c : CommandState) → slice_get client.commands op ≡ Some command → AreLegal client ts →
    slice_get (point_behind client ts).state.commands op ≡ Some c → c.op ≡ behind (writes command.act) (retries command.act) (events_of client op ts)
command-behind client op command ts c given l there =
    let d = new_op (writes command.act) (retries command.act) in
    sym (ap (λ o. op_or d (op_in o)) there) ∙ (command-leads client op command ts given l).to
