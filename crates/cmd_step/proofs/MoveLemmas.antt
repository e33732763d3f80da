-- What a look does to a client.
use Rattle.std.proofs.Common.{◌≡◌, ◌<◌, ℕ, Bool, true, false, List, length, Option, None, Some, IsSome, refl, sym, ap, ◌∙◌, subst, get_or}
use Rattle.std.proofs.lemmas.Option.{slice_get-get_or, slice_get_within}
use Rattle.std.specs.FinMap as map
use Rattle.std.specs.Option.{option_and_then, option_map_or}
use Rattle.std.specs.Prelude.{slice_get, slice_set}
use Rattle.hello_reply.specs.declared.server_description.ServerDescription.{ServerDescription}
use Rattle.topo_rules.specs.Maps.{ServerMap}
use Rattle.topo_rules.specs.declared.topology.Topology.{Topology}
use Rattle.write_retry.specs.Machine.{allows}
use Rattle.write_retry.specs.declared.events.Next.TheVariants as next_of
use Rattle.write_retry.specs.declared.events.OpEvent.{OpEvent}
use Rattle.write_retry.specs.declared.events.OpEvent.TheVariants as event
use Rattle.desk_trail.specs.declared.entry.LookedHow.{LookedHow}
use Rattle.desk_trail.specs.declared.entry.LookedHow.TheVariants as looked
use Rattle.desk_trail.specs.Attempts.{CommandAllows, commands_after, look_event, misfit_event, to_command, with_event}
use Rattle.desk_trail.specs.Checks.{all_asked}
use Rattle.desk_trail.specs.Clients.{Client}
use Rattle.desk_trail.specs.Facts as fact
use Rattle.desk_trail.specs.Legal.{InTime, MayGoOn, Point, StandsAt, client_after}
use Rattle.desk_trail.specs.Looks.{IsLook, is_numbered, look_by, selected_of}
use Rattle.desk_trail.specs.Owed.{InTurn}
use Rattle.desk_trail.specs.States.{ClientState, CommandState, Selected, ServerState, description_of, with_command}
use Rattle.server_look.specs.Inputs.{HasDescription}
use Rattle.cmd_step.specs.Free.{IsFree}
use Rattle.cmd_step.specs.Looked.{looked_by, servers_behind, told_by}
use Rattle.cmd_step.proofs.ListLemmas.{changed-there, changed-twice}

-- ---- A server that a look names

within : (m : ServerMap) (servers : List ServerState) (host : ℕ) (o : Option ServerState) → slice_get servers host ≡ o →
    IsSome (option_and_then (λ (s : ServerState). map.get m s.address) o) → host < length servers
within m servers host None e h = absurd (cc)
within m servers host (Some s) e h = slice_get_within servers host s e

pub described-within : (m : ServerMap) (servers : List ServerState) (host : ℕ) → HasDescription m servers host → host < length servers
described-within m servers host h = within m servers host (slice_get servers host) refl h

pub has-in : (w : ClientState) (t : Topology) (servers : List ServerState) (host : ℕ) → w.topology ≡ t → w.servers ≡ servers → HasDescription t.servers servers host →
    HasDescription w.topology.servers w.servers host
has-in w t servers host e v h =
    subst (λ (ss : List ServerState). HasDescription w.topology.servers ss host) (sym v) (subst (λ (x : Topology). HasDescription x.servers servers host) (sym e) h)

pub there-in : (w : ClientState) (servers : List ServerState) (host : ℕ) (s : ServerState) → w.servers ≡ servers → host < length servers →
    slice_get w.servers host ≡ Some (get_or servers host s)
there-in w servers host s v lt = ap (λ ss. slice_get ss host) v ∙ slice_get-get_or servers host s lt

-- ---- What it tells its command

pub chosen-by : (client : Client) (w : ClientState) (moment host h : ℕ) (n : Bool) (s : Selected) (c new : CommandState) → h ≡ host → Some s ≡ selected_of w host →
    n ≡ is_numbered client s → (selected_of w h ≡ Some s → new ≡ with_event (event.Chosen h n) (look_by w moment (looked.Chosen h) c)) →
    new ≡ looked_by client w moment (looked.Chosen host) c
chosen-by client w moment host h n s c new e at numbered f =
    subst (λ x. selected_of w x ≡ Some s → new ≡ with_event (event.Chosen x n) (look_by w moment (looked.Chosen x) c)) e f (sym at)
    ∙ ap (λ b. with_event (event.Chosen host b) (look_by w moment (looked.Chosen host) c))
    (numbered ∙ ap (λ (o : Option Selected). option_map_or (is_numbered client) o false) at)

pub misfit-by : (client : Client) (w : ClientState) (moment host : ℕ) (d : ServerDescription) (c new : CommandState) →
    option_and_then (description_of w) (slice_get w.servers host) ≡ Some d →
    new ≡ with_event (event.Incompatible host d.min_wire d.max_wire) (look_by w moment (looked.Incompatible host) c) → new ≡ looked_by client w moment (looked.Incompatible host) c
misfit-by client w moment host d c new e h =
    h ∙ ap (λ (o : Option ServerDescription). told_by (misfit_event host o) (look_by w moment (looked.Incompatible host) c)) (sym e)

-- ---- When it may stand

allowed : (w : ClientState) (op : ℕ) (c : CommandState) (e : OpEvent) → slice_get w.commands op ≡ Some c → c.op.next ≡ next_of.Select → allows next_of.Select e ≡ true →
    CommandAllows w (to_command op (Some e))
allowed w op c e there selects h = (c, there, ap (λ n. allows n e) selects ∙ h)

allowed-misfit : (w : ClientState) (op host : ℕ) (c : CommandState) (o : Option ServerDescription) → slice_get w.commands op ≡ Some c → c.op.next ≡ next_of.Select →
    CommandAllows w (to_command op (misfit_event host o))
allowed-misfit w op host c None there selects = tt
allowed-misfit w op host c (Some d) there selects = allowed w op c (event.Incompatible host d.min_wire d.max_wire) there selects refl

allowed-look : (client : Client) (w : ClientState) (op : ℕ) (c : CommandState) (how : LookedHow) → slice_get w.commands op ≡ Some c → c.op.next ≡ next_of.Select →
    CommandAllows w (to_command op (look_event client w how))
allowed-look client w op c (looked.Chosen host) there selects = (c, there, ap (λ n. allows n (event.Chosen host (option_map_or (is_numbered client) (selected_of w host) false))) selects)
allowed-look client w op c looked.NoneFits there selects = tt
allowed-look client w op c looked.Failed there selects = allowed w op c event.NoServer there selects refl
allowed-look client w op c (looked.Incompatible host) there selects = allowed-misfit w op host c (option_and_then (description_of w) (slice_get w.servers host)) there selects

pub StandsAt-looked : (client : Client) (p : Point) (moment op a b : ℕ) (kept : List ℕ) (how : LookedHow) (c : CommandState) → IsFree p moment →
    slice_get p.state.commands op ≡ Some c → c.op.next ≡ next_of.Select → IsLook client p.state moment op a b kept how →
    StandsAt client p (record { at = moment; what = fact.Looked op a b kept how })
StandsAt-looked client p moment op a b kept how c free there selects look = record {
  time = subst (λ o. InTime o p.moment moment) (sym free.paid) free.time;
  turn = subst (λ o. InTurn o (fact.Looked op a b kept how)) (sym free.paid) tt;
  going = subst (λ g. MayGoOn g (fact.Looked op a b kept how)) (sym free.goes_on) tt;
  rule = ((c, there, selects), look);
  command = allowed-look client p.state op c how there selects;
}

-- ---- The client behind it

behind-misfit : (w : ClientState) (moment op host : ℕ) (c : CommandState) (o : Option ServerDescription) → slice_get w.commands op ≡ Some c →
    commands_after (to_command op (misfit_event host o)) (with_command w op (look_by w moment (looked.Incompatible host)))
    ≡ record w { commands = slice_set w.commands op (told_by (misfit_event host o) (look_by w moment (looked.Incompatible host) c)) }
behind-misfit w moment op host c None there =
    ap (λ (cs : List CommandState). let v : ClientState = record w { commands = cs } in v) (changed-there w.commands op c (look_by w moment (looked.Incompatible host)) there)
behind-misfit w moment op host c (Some d) there =
    ap (λ (cs : List CommandState). let v : ClientState = record w { commands = cs } in v)
    (changed-twice w.commands op c (look_by w moment (looked.Incompatible host)) (with_event (event.Incompatible host d.min_wire d.max_wire)) there)

pub behind-look : (client : Client) (w : ClientState) (moment op a b : ℕ) (kept : List ℕ) (how : LookedHow) (c : CommandState) → slice_get w.commands op ≡ Some c →
    client_after client moment w (fact.Looked op a b kept how)
    ≡ record w { servers = servers_behind moment how w.servers; commands = slice_set w.commands op (looked_by client w moment how c) }
behind-look client w moment op a b kept (looked.Chosen host) c there =
    ap (λ (cs : List CommandState). let v : ClientState = record w { commands = cs } in v)
    (changed-twice w.commands op c (look_by w moment (looked.Chosen host)) (with_event (event.Chosen host (option_map_or (is_numbered client) (selected_of w host) false))) there)
behind-look client w moment op a b kept looked.NoneFits c there =
    ap (λ (cs : List CommandState). let v : ClientState = record (all_asked moment w) { commands = cs } in v) (changed-there w.commands op c (look_by w moment looked.NoneFits) there)
behind-look client w moment op a b kept looked.Failed c there =
    ap (λ (cs : List CommandState). let v : ClientState = record w { commands = cs } in v)
    (changed-twice w.commands op c (look_by w moment looked.Failed) (with_event event.NoServer) there)
behind-look client w moment op a b kept (looked.Incompatible host) c there = behind-misfit w moment op host c (option_and_then (description_of w) (slice_get w.servers host)) there
