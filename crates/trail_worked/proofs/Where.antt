-- What stands at a place is what stands there.
use Rattle.std.proofs.Common.{◌≡◌, ℕ, zero, suc, ℤ, pos, ◌<◌, ◌≤◌, ◌+◌, eqb, Bool, true, false, List, [], ◌∷◌, map, Option, None, Some, refl, sym, ap, ◌∙◌, subst, slice_get, arith, true≢false}
use Rattle.std.specs.Option.{unwrap_or, option_map, option_or}
use Rattle.host_name.specs.Addresses.{Address}
use Rattle.bson_doc.specs.declared.ids.Lsid.{Lsid}
use Rattle.hello_reply.specs.declared.server_description.ServerDescription.{ServerDescription}
use Rattle.hello_reply.specs.declared.server_kind.ServerKind.{ServerKind}
use Rattle.cmd_build.specs.Commands.{command_document}
use Rattle.cmd_build.specs.Sizes.{Excess, documents_of, first_over, message_size, over}
use Rattle.cmd_build.specs.declared.command.Command.{Command}
use Rattle.desk_trail.specs.Checks.{AreChecked, IsCheckedFor, MayCheckEnd, is_due, named_late, ended, runs}
use Rattle.desk_trail.specs.Facts as fact
use Rattle.desk_trail.specs.Looks.{AreNumbersOf, Concludes, IsKeptOf, NeedsFor, deadline, first_look, hosts_known, load_of}
use Rattle.desk_trail.specs.Leases.{IsDraw, IsLease, IsReturn, SessionAllows, needs_number, session_step_of}
use Rattle.write_retry.specs.declared.events.Next.{Next}
use Rattle.write_retry.specs.declared.events.Next.TheVariants as next
use Rattle.write_retry.specs.declared.outcome.Outcome.TheVariants as outcome
use Rattle.pool_book.specs.Entries as pool
use Rattle.pool_book.specs.Entries.{PoolEntry}
use Rattle.pool_book.specs.declared.answers.CloseReason.TheVariants as reason
use Rattle.cmd_build.specs.Ops.{writes}
use Rattle.cmd_build.specs.declared.command.Act.{Act}
use Rattle.server_pick.specs.Candidates.{candidate_of, of_primary, of_set, suitable}
use Rattle.server_pick.specs.declared.criteria.Need.{Need}
use Rattle.server_pick.specs.declared.criteria.Need.TheVariants as need
use Rattle.server_pick.specs.declared.picked.Picked.TheVariants as picked
use Rattle.topo_rules.specs.declared.kind.TopoKind.TheVariants as topo
use Rattle.desk_trail.specs.declared.entry.CheckHow.TheVariants as check_how
use Rattle.desk_trail.specs.declared.entry.LookedHow.{LookedHow}
use Rattle.desk_trail.specs.declared.entry.LookedHow.TheVariants as looked
use Rattle.trail_worked.proofs.MapRows.{descriptions_in}
use Rattle.trail_worked.proofs.TopologyRows.{Listed}
use Rattle.trail_worked.proofs.Spots.{on}
use Rattle.trail_worked.proofs.Rules.{LookIn, picks_in}
use Rattle.desk_trail.specs.declared.request.Request.{Request}
use Rattle.desk_trail.specs.Clients.{Client, connect_limit, threshold}
use Rattle.bson_doc.specs.declared.cluster_time.ClusterTime.{ClusterTime}
use Rattle.msg_wire.specs.Framing.{frame}
use Rattle.desk_trail.specs.Requests.{IsGreatest, IsRequestOf, lsid_of}
use Rattle.desk_trail.specs.States.{ClientState, CommandState, ServerState, Selected, CheckOut, Nothing, Waits, Dials, Has, stream_of}

pub same : {A : Type 0} {x y : A} → Some x ≡ Some y → x ≡ y
same {A} {x} {y} e = ap (λ o. unwrap_or o x) e

pub known : {A : Type 0} {P : A → Type 0} {o : Option A} {x : A} → ((y : A) × (o ≡ Some y) × P y) → o ≡ Some x → P x
known {A} {P} {o} {x} k e = subst P (same (sym k.1 ∙ e)) k.2

-- the same where more is said of it
pub known_both : {A : Type 0} {P Q : A → Type 0} {o : Option A} {x : A} → ((y : A) × (o ≡ Some y) × P y × Q y) → o ≡ Some x → P x × Q x
known_both {A} {P} {Q} {o} {x} k e = subst (λ y. P y × Q y) (same (sym k.1 ∙ e)) (k.2, k.3)

pub known_first : {A : Type 0} {P Q R S : A → Type 0} {o : Option A} {x : A} → ((y : A) × (o ≡ Some y) × P y × Q y × R y × S y) → o ≡ Some x → P x
known_first {A} {P} {Q} {R} {S} {o} {x} k e = subst P (same (sym k.1 ∙ e)) k.2

-- what a test tells apart is not equal
pub clash : {A : Type 0} {x y : A} → x ≡ y → (test : A → Bool) → test x ≡ true → test y ≡ false → ⊥
clash e test p q = true≢false (sym p ∙ ap test e ∙ q)

pub clash_bool : true ≡ false → ⊥
clash_bool e = true≢false e

-- the stream of a request is that of the connection that its command has
host_in : CheckOut → ℕ
host_in Nothing = 0
host_in (Waits host ticket) = host
host_in (Dials host ticket conn) = host
host_in (Has host ticket conn) = host

conn_in : CheckOut → ℕ
conn_in Nothing = 0
conn_in (Waits host ticket) = 0
conn_in (Dials host ticket conn) = conn
conn_in (Has host ticket conn) = conn

pub stream_sent : (client : Client) (w : ClientState) (time : Option ℕ) (op : ℕ) (r : Request) (c : CommandState) (host ticket conn : ℕ) (s : ServerState) →
    slice_get w.commands op ≡ Some c → c.check_out ≡ Has host ticket conn → slice_get w.servers host ≡ Some s →
    IsRequestOf client w time op r → stream_of s conn ≡ Some r.stream
unfolding host_in conn_in
stream_sent client w time op r c host ticket conn s there has at q =
    let running : q.sends.running ≡ c = same (sym q.sends.there ∙ there) in
    let both : Has q.sends.host q.sends.ticket q.sends.conn ≡ Has host ticket conn = sym q.sends.lent ∙ ap (λ (x : CommandState). x.check_out) running ∙ has in
    let server : q.sends.server ≡ s = same (sym q.sends.at ∙ subst (λ h. slice_get w.servers h ≡ Some s) (sym (ap host_in both)) at) in
    subst (λ n. stream_of s n ≡ Some r.stream) (ap conn_in both) (subst (λ x. stream_of x q.sends.conn ≡ Some r.stream) server q.stream)

-- the kinds of servers that stand in rows
abbrev pub kinds_of : List (Address × ServerDescription) → List ServerKind
kinds_of es = map (λ e. e.1.kind) es

-- what a command that is not sent for its size would be measured by: its own documents come first
pub fits_first : (client : Client) (w : ClientState) (time : Option ℕ) (op : ℕ) (r : Request) (command : Command) (c : CommandState) (selected : Selected) →
    slice_get client.commands op ≡ Some command → slice_get w.commands op ≡ Some c → c.selected ≡ Some selected →
    IsRequestOf client w time op r → (rest : Option Excess) × (option_or (first_over selected.server.max_doc (documents_of command.act)) rest ≡ None)
fits_first client w time op r command c selected given there chosen q =
    let s = q.sends in
    let is_command : s.command ≡ command = same (sym s.given ∙ given) in
    let running : s.running ≡ c = same (sym s.there ∙ there) in
    let is_selected : s.selected ≡ selected = same (sym s.chosen ∙ ap (λ (x : CommandState). x.selected) running ∙ chosen) in
    let rest = over s.selected.server.max_message (message_size (command_document s.command client.settings.db s.extras s.cluster)) in (
      rest,
      subst (λ (x : Selected). option_or (first_over x.server.max_doc (documents_of command.act)) rest ≡ None) is_selected
          (subst (λ (x : Command). option_or (first_over s.selected.server.max_doc (documents_of x.act)) rest ≡ None) is_command q.fits),
    )

-- the bytes of a request are those of its command, with its session and its number
no_cluster : (t : Option ClusterTime) → IsGreatest None t → t ≡ None
no_cluster None g = refl
no_cluster (Some t) g = absurd g

pub bytes_sent : (client : Client) (w : ClientState) (op : ℕ) (r : Request) (command : Command) (lsid : Option Lsid) (number : Option ℤ) →
    slice_get client.commands op ≡ Some command →
    option_map (λ (c : CommandState). lsid_of w.sessions c.session) (slice_get w.commands op) ≡ Some lsid →
    option_map (λ (c : CommandState). c.number) (slice_get w.commands op) ≡ Some number →
    (q : IsRequestOf client w None op r) →
    r.bytes ≡ frame r.id (pos 0) 0 (command_document command client.settings.db (record { lsid = lsid; number = number; mode = q.sends.extras.mode; read = q.sends.extras.read }) None)
bytes_sent client w op r command lsid number given session drawn q =
    let s = q.sends in
    let is_command : s.command ≡ command = same (sym s.given ∙ given) in
    let is_lsid : s.extras.lsid ≡ lsid =
    s.are.session ∙ same (sym (ap (option_map (λ (c : CommandState). lsid_of w.sessions c.session)) s.there) ∙ session) in
    let is_number : s.extras.number ≡ number = s.are.number ∙ same (sym (ap (option_map (λ (c : CommandState). c.number)) s.there) ∙ drawn) in
    let none : s.cluster ≡ None = no_cluster s.cluster s.greatest in
    q.message.bytes ∙ (λ i. frame r.id (pos 0) 0 (command_document (is_command i) client.settings.db (record { lsid = is_lsid i; number = is_number i; mode = s.extras.mode; read = s.extras.read }) (none i)))

-- what an entry of the sessions says of its command
module _ (w : ClientState) (moment op : ℕ) (c : CommandState) where
  pub lease_says : (place : ℕ) (lsid : Lsid) (fresh : Bool) → IsLease w moment op place lsid fresh → slice_get w.commands op ≡ Some c →
      SessionAllows w moment (session_step_of c (fact.Leased op place lsid fresh))
  lease_says place lsid fresh l there =
      subst (λ x. SessionAllows w moment (session_step_of x (fact.Leased op place lsid fresh))) (same (sym l.there ∙ there)) l.session

  pub draw_says : (number : ℤ) → IsDraw w moment op number → slice_get w.commands op ≡ Some c →
      (needs_number c ≡ true) × SessionAllows w moment (session_step_of c (fact.Drew op number))
  draw_says number l there =
      subst (λ x. (needs_number x ≡ true) × SessionAllows w moment (session_step_of x (fact.Drew op number))) (same (sym l.there ∙ there)) (l.needs, l.session)

  pub return_says : (dirty kept : Bool) → IsReturn w moment op dirty kept → slice_get w.commands op ≡ Some c → dirty ≡ c.is_dirty
  return_says dirty kept l there = l.says ∙ ap (λ (x : CommandState). x.is_dirty) (same (sym l.there ∙ there))

-- the checks of the only server
pub one_checked : (moment first deadline known : ℕ) (x : ServerState) → IsCheckedFor moment first deadline known 0 x →
    (host : ℕ) (s : ServerState) → slice_get (x ∷ []) host ≡ Some s → s.has_left ≡ false → IsCheckedFor moment first deadline known host s
one_checked moment first deadline known x h zero s e l = subst (IsCheckedFor moment first deadline known 0) (same e) h
one_checked moment first deadline known x h (suc host) s e l = absurd (cc)

pub unchecked : (moment first deadline known host : ℕ) (s : ServerState) → s.named < deadline → s.checks.ended ≡ None → s.dry ≡ None →
    IsCheckedFor moment first deadline known host s → ⊥
unchecked moment first deadline known host s early none dry (named_late late) = absurd (omega arith)
unchecked moment first deadline known host s early none dry (ended last e h d) = absurd (cc)
unchecked moment first deadline known host s early none dry (runs began at e f h g) = absurd (cc)

pub unchecked_while_due : (moment first deadline known host : ℕ) (s : ServerState) → s.named < deadline → is_due moment s ≡ true → s.dry ≡ None →
    IsCheckedFor moment first deadline known host s → ⊥
unchecked_while_due moment first deadline known host s early due dry (named_late late) = absurd (omega arith)
unchecked_while_due moment first deadline known host s early due dry (ended last e h d) = true≢false (sym due ∙ d)
unchecked_while_due moment first deadline known host s early due dry (runs began at e f h g) = absurd (cc)

-- of no candidate none is kept
pub not_kept : (w : ClientState) (host : ℕ) (addresses : List Address) → AreNumbersOf w (host ∷ []) addresses → IsKeptOf addresses [] → ⊥
not_kept w host [] n k = n
not_kept w host (x ∷ xs) n k = k

-- a server is to be looked for
abbrev pub is_select : Next → Bool
is_select next.Select = true
is_select (next.CheckOut host) = false
is_select next.Send = false
is_select next.Read = false
is_select (next.Answer outcome) = false

-- it is answered as after a network error
abbrev pub answers_network : Next → Bool
answers_network (next.Answer outcome.Network) = true
answers_network n = false

-- which entry of a pool it is
abbrev pub shuts : PoolEntry → Bool
shuts (pool.ConnShut conn reason) = true
shuts e = false

abbrev pub shuts_as_errored : PoolEntry → Bool
shuts_as_errored (pool.ConnShut conn reason.Errored) = true
shuts_as_errored e = false

abbrev pub shuts_as_stale : PoolEntry → Bool
shuts_as_stale (pool.ConnShut conn reason.Stale) = true
shuts_as_stale e = false

abbrev pub clears_to : ℕ → PoolEntry → Bool
clears_to n (pool.NotLent number (pool.Cleared g)) = eqb g n
clears_to n e = false

-- when a check that ends late had begun
pub late_says : (client : Client) (moment : ℕ) (s : ServerState) (b : ℕ) → MayCheckEnd client moment check_how.Late s → s.checks.began ≡ Some b →
    b + connect_limit client ≤ moment
late_says client moment s b m e = subst (λ n. n + connect_limit client ≤ moment) (same (sym m.1.since ∙ e)) m.2

-- what a look of a write says of no server
needs_write : (client : Client) (act : Act) (n : Need) → writes act ≡ true → NeedsFor client act n → n ≡ need.Write
needs_write client act need.Write e k = refl
needs_write client act (need.Read p) e k = absurd (true≢false (sym e ∙ k.0))

no_numbers : (w : ClientState) (addresses : List Address) → AreNumbersOf w [] addresses → addresses ≡ []
no_numbers w [] n = refl
no_numbers w (x ∷ xs) n = absurd n

module _ (client : Client) (w : ClientState) (l : Listed) (moment op a b : ℕ) where
  pub no_primary_kept : (host : ℕ) (how : LookedHow) (command : Command) → LookIn client w l moment op a b (host ∷ []) how →
      slice_get client.commands op ≡ Some command → writes command.act ≡ true → l.kind ≡ topo.NoPrimary → of_primary (descriptions_in l.rows) ≡ [] → ⊥
  no_primary_kept host how command k given write kind none =
      let load = load_of (on w l) in
      let is_write : k.criteria.need ≡ need.Write = needs_write client k.command.act k.criteria.need (ap (λ (x : Command). writes x.act) (same (sym k.given ∙ given)) ∙ write) k.asks.needs in
      let at_kind = subst (λ x. IsKeptOf k.addresses (map (λ c. c.host) (map (candidate_of load) (suitable x k.criteria (descriptions_in l.rows))))) kind k.sublist in
      let of_write = subst (λ n. IsKeptOf k.addresses (map (λ c. c.host) (map (candidate_of load) (of_set n (descriptions_in l.rows))))) is_write at_kind in
      not_kept (on w l) host k.addresses k.numbers (subst (λ ds. IsKeptOf k.addresses (map (λ c. c.host) (map (candidate_of load) ds))) none of_write)

  concludes_none : (how : LookedHow) (c : CommandState) → LookIn client w l moment op a b [] how → slice_get w.commands op ≡ Some c →
      picks_in l (threshold client) [] (load_of (on w l)) a b ≡ picked.NoneFits → Concludes client (on w l) c moment picked.NoneFits how
  concludes_none how c k there none =
      subst (λ p. Concludes client (on w l) c moment p how) none
      (subst (λ xs. Concludes client (on w l) c moment (picks_in l (threshold client) xs (load_of (on w l)) a b) how) (no_numbers (on w l) k.addresses k.numbers)
      (subst (λ x. Concludes client (on w l) x moment (picks_in l (threshold client) k.addresses (load_of (on w l)) a b) how) (same (sym k.there ∙ there)) k.concludes))

  pub failed_says : (c : CommandState) → LookIn client w l moment op a b [] looked.Failed → slice_get w.commands op ≡ Some c →
      picks_in l (threshold client) [] (load_of (on w l)) a b ≡ picked.NoneFits →
      (deadline client c moment ≤ moment) × AreChecked (on w l) moment (first_look c moment) (deadline client c moment) (hosts_known c)
  failed_says c k there none = concludes_none looked.Failed c k there none

  pub none_says : (c : CommandState) → LookIn client w l moment op a b [] looked.NoneFits → slice_get w.commands op ≡ Some c →
      picks_in l (threshold client) [] (load_of (on w l)) a b ≡ picked.NoneFits → moment < deadline client c moment
  none_says c k there none = concludes_none looked.NoneFits c k there none
