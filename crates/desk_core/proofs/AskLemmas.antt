-- Servers of which a check was asked for: all that a desk keeps of them stays as it was.
use Rattle.std.proofs.Common.{◌≡◌, ◌<◌, ℕ, zero, suc, Bool, true, false, List, [], ◌∷◌, ◌++◌, map, length, Option, None, Some, refl, sym, ap, ◌∙◌, subst}
use Rattle.std.specs.Prelude.{slice_get, slice_set, if◌then◌else◌}
use Rattle.std.specs.List.{filter_map}
use Rattle.std.specs.Option.{option_and_then, option_map_or}
use Rattle.std.proofs.lemmas.List.{length-set}
use Rattle.host_name.specs.Addresses.{Address}
use Rattle.pool_book.specs.Pool.{is_closed, is_paused}
use Rattle.topo_rules.specs.declared.change.Change.{Change}
use Rattle.watch_step.specs.Entries as check
use Rattle.desk_trail.specs.Checks.{asked, with_checks}
use Rattle.desk_trail.specs.Owed.{Owed}
use Rattle.desk_trail.specs.Owed as owed
use Rattle.desk_trail.specs.States.{ClientState, ServerState, changed_at, number_from, number_of}
use Rattle.desk_trail.specs.Topologies.{cleared, is_paused_at, readied}
use Rattle.wired_trail.specs.Lines.{Lines}
use Rattle.desk_core.specs.Follows.{asked_in, owed_by}
use Rattle.desk_core.specs.Servers.{AreKeptServers, HasStream, IsKeptServer, closings}
use Rattle.desk_core.proofs.ServerLemmas.{AreKeptServers-set, closing_of-kept, closings-set_kept, map-set, number_from-set, stands_at-kept}

-- ---- One server

-- a server is as it was, but for when its next check is due
pub record SameButDue (s t : ServerState) : Type 0 where
  pub address : t.address ≡ s.address
  pub left : t.has_left ≡ s.has_left
  pub pool : t.pool ≡ s.pool
  pub began : t.checks.began ≡ s.checks.began
  pub beat : t.checks.beat ≡ s.checks.beat
  pub stream : t.check_stream ≡ s.check_stream

pub SameButDue-asked : (moment : ℕ) (s : ServerState) → SameButDue s (asked moment s)
SameButDue-asked moment s = by s.has_left
  where
    by : (b : Bool) → SameButDue s (if b then s else with_checks moment check.Asked s)
    by true = record { address = refl; left = refl; pool = refl; began = refl; beat = refl; stream = refl }
    by false = record { address = refl; left = refl; pool = refl; began = refl; beat = refl; stream = refl }

IsKeptServer-asked : (lines : Lines) (n x : ℕ) (s t : ServerState) → SameButDue s t → IsKeptServer lines n x s → IsKeptServer lines n x t
IsKeptServer-asked lines n x s t same k = record {
  paid = ap (λ p. p.owed) same.pool ∙ k.paid;
  is_open = λ stays. ap (λ p. is_closed p.state.state) same.pool ∙ k.is_open (sym same.left ∙ stays);
  generation = subst (λ p. p.state.generation < n) (sym same.pool) k.generation;
  entered = subst (λ p. p.state.entered < n) (sym same.pool) k.entered;
  checked =
      subst (λ b. HasStream lines x b t.check_stream) (sym same.began)
      (subst (λ o. HasStream lines x s.checks.began o) (sym same.stream) k.checked);
  paced = subst (λ m. 0 < m) (sym same.beat) k.paced;
}

-- ---- All of them

-- where nobody asks, or the one that is asked of is changed so
by_place : (P : List ServerState → Type 0) (moment : ℕ) (o : Option ℕ) (ss : List ServerState) → P ss →
    ((k : ℕ) (s : ServerState) → slice_get ss k ≡ Some s → P (slice_set ss k (asked moment s))) → P (asked_in moment o ss)
by_place P moment None ss same set = same
by_place P moment (Some k) ss same set = by (slice_get ss k) refl
  where
    by : (o : Option ServerState) → slice_get ss k ≡ o → P (changed_at ss k o (asked moment))
    by None e = same
    by (Some s) e = set k s e

pub length-asked : (moment : ℕ) (o : Option ℕ) (ss : List ServerState) → length (asked_in moment o ss) ≡ length ss
length-asked moment o ss = by_place (λ ts. length ts ≡ length ss) moment o ss refl (λ k s there. length-set ss k (asked moment s))

pub addresses-asked : (moment : ℕ) (o : Option ℕ) (ss : List ServerState) →
    map (λ (s : ServerState). s.address) (asked_in moment o ss) ≡ map (λ (s : ServerState). s.address) ss
addresses-asked moment o ss =
    by_place (λ ts. map (λ (s : ServerState). s.address) ts ≡ map (λ (s : ServerState). s.address) ss) moment o ss refl
    (λ k s there. map-set (λ (u : ServerState). u.address) ss k (asked moment s) s there (SameButDue-asked moment s).address)

pub closings-asked : (moment : ℕ) (o : Option ℕ) (ss : List ServerState) → closings (asked_in moment o ss) ≡ closings ss
closings-asked moment o ss = by_place (λ ts. closings ts ≡ closings ss) moment o ss refl (λ k s there.
    let same = SameButDue-asked moment s in
    closings-set_kept ss k s (asked moment s) there (closing_of-kept s (asked moment s) same.left (ap (λ p. length p.state.available) same.pool)))

pub AreKeptServers-asked : (lines : Lines) (n moment : ℕ) (o : Option ℕ) (ss : List ServerState) → AreKeptServers lines n ss → AreKeptServers lines n (asked_in moment o ss)
AreKeptServers-asked lines n moment o ss kept = by_place (AreKeptServers lines n) moment o ss kept (λ k s there.
    AreKeptServers-set lines n ss k (asked moment s) kept (IsKeptServer-asked lines n k s (asked moment s) (SameButDue-asked moment s) (kept k s there)))

-- ---- What is read of them

number-asked : (moment : ℕ) (o : Option ℕ) (ss : List ServerState) (a : Address) → number_from 0 (asked_in moment o ss) a ≡ number_from 0 ss a
number-asked moment o ss a = by_place (λ ts. number_from 0 ts a ≡ number_from 0 ss a) moment o ss refl (λ k s there.
    let same = SameButDue-asked moment s in
    number_from-set 0 ss k s (asked moment s) a there (stands_at-kept a s (asked moment s) same.address same.left))

abbrev paused_in : List ServerState → ℕ → Bool
paused_in ss x = option_map_or (λ (s : ServerState). is_paused s.pool.state.state) (slice_get ss x) false

paused-set : (ss : List ServerState) (k x : ℕ) (s t : ServerState) → slice_get ss k ≡ Some s → t.pool ≡ s.pool → paused_in (slice_set ss k t) x ≡ paused_in ss x
paused-set [] k x s t there same = refl
paused-set (z ∷ zs) zero zero s t there same = let is : s ≡ z = (cc) in ap (λ p. is_paused p.state.state) same ∙ ap (λ (u : ServerState). is_paused u.pool.state.state) is
paused-set (z ∷ zs) zero (suc x) s t there same = refl
paused-set (z ∷ zs) (suc k) zero s t there same = refl
paused-set (z ∷ zs) (suc k) (suc x) s t there same = paused-set zs k x s t there same

paused-asked : (moment : ℕ) (o : Option ℕ) (ss : List ServerState) (x : ℕ) → paused_in (asked_in moment o ss) x ≡ paused_in ss x
paused-asked moment o ss x = by_place (λ ts. paused_in ts x ≡ paused_in ss x) moment o ss refl (λ k s there.
    paused-set ss k x s (asked moment s) there (SameButDue-asked moment s).pool)

-- ---- What a change owes

abbrev readied_as : (ℕ → Bool) → Option ℕ → List Owed
readied_as paused None = []
readied_as paused (Some x) = if paused x then owed.PoolReady x ∷ [] else []

readied-as : (w : ClientState) (o : Option ℕ) → readied w o ≡ readied_as (is_paused_at w) o
readied-as w None = refl
readied-as w (Some x) = refl

-- read off which number an address has, and which pools are paused
abbrev owed_as : (Address → Option ℕ) → (ℕ → Bool) → Change → List Owed
owed_as number paused c =
    map (λ address. owed.Named address) c.added
    ++ (map (λ host. owed.Dropped host) (filter_map number c.removed)
    ++ (readied_as paused (option_and_then number c.ready)
    ++ cleared (option_and_then number c.clear)))

owed-as : (w : ClientState) (c : Change) → owed_by w c ≡ owed_as (number_of w) (is_paused_at w) c
owed-as w c =
    ap (λ (r : List Owed). map (λ address. owed.Named address) c.added
    ++ (map (λ host. owed.Dropped host) (filter_map (number_of w) c.removed) ++ (r ++ cleared (option_and_then (number_of w) c.clear))))
    (readied-as w (option_and_then (number_of w) c.ready))

pub owed_by-asked : (moment : ℕ) (o : Option ℕ) (w v : ClientState) (c : Change) → v.servers ≡ asked_in moment o w.servers → owed_by w c ≡ owed_by v c
owed_by-asked moment o w v c is =
    let numbers : (a : Address) → number_of w a ≡ number_of v a =
    λ a. sym (number-asked moment o w.servers a) ∙ ap (λ (ss : List ServerState). number_from 0 ss a) (sym is) in
    let paused : (x : ℕ) → is_paused_at w x ≡ is_paused_at v x =
    λ x. sym (paused-asked moment o w.servers x) ∙ ap (λ (ss : List ServerState). paused_in ss x) (sym is) in
    owed-as w c ∙ (λ i. owed_as (λ a. numbers a i) (λ x. paused x i) c) ∙ sym (owed-as v c)
