-- What must follow a change of the topology, part by part as it is written.
use Rattle.std.proofs.Common.{◌≡◌, ◌≤◌, ℕ, ◌+◌, ◌*◌, false, if◌then◌else◌, List, [], ◌∷◌, ◌++◌, map, length, Option, None, Some, refl, sym, ap, ◌∙◌, subst, arith, append_assoc}
use Rattle.std.specs.List.{cons_option, filter_map}
use Rattle.std.specs.Option.{option_and_then, option_map_or}
use Rattle.std.specs.Prelude.{slice_get}
use Rattle.host_name.specs.Addresses.{Address}
use Rattle.topo_rules.specs.declared.change.Change.{Change}
use Rattle.pool_book.specs.Pool.{is_paused}
use Rattle.desk_trail.specs.Owed.{Owed}
use Rattle.desk_trail.specs.Owed as owed
use Rattle.desk_trail.specs.States.{ClientState, ServerState, number_of}
use Rattle.desk_trail.specs.Topologies.{cleared, readied}
use Rattle.desk_core.specs.Follows.{AreApart, AreNone, IsNone, IsNoneOf, entries_for, owed_by}
use Rattle.desk_core.specs.Kept.{IsWriting}
use Rattle.desk_core.specs.Servers.{IsUntouched}
use Rattle.desk_core.specs.State.{Core}
use Rattle.desk_core.proofs.ServerLemmas.{IsUntouched-trans}

-- ---- The parts of what is owed

-- behind the names, and behind the hosts that leave
abbrev pub moved : ClientState → Change → List Owed
moved w c = readied w (option_and_then (number_of w) c.ready) ++ cleared (option_and_then (number_of w) c.clear)

abbrev pub unnamed : ClientState → Change → List Owed
unnamed w c = map (λ host. owed.Dropped host) (filter_map (number_of w) c.removed) ++ moved w c

pub IsWriting-same : {N : Type 0} (d : Core N) (moment m n : ℕ) (xs ys : List Owed) → n ≤ m → xs ≡ ys → IsWriting d moment m xs → IsWriting d moment n ys
IsWriting-same d moment m n xs ys less same w = record { runs = w.runs; owes = w.owes ∙ same; at = w.at; now = w.now; space = let space = w.space in omega arith }

pub IsWriting-names : {N : Type 0} (d : Core N) (moment n : ℕ) (w : ClientState) (c : Change) (rest : List Owed) →
    IsWriting d moment (n + entries_for c) (owed_by w c ++ rest) →
    IsWriting d moment ((n + 2 + length c.removed) + 2 * length c.added) (map (λ address. owed.Named address) c.added ++ (unnamed w c ++ rest))
IsWriting-names d moment n w c rest h =
    IsWriting-same d moment (n + entries_for c) ((n + 2 + length c.removed) + 2 * length c.added) (owed_by w c ++ rest) _ (omega arith)
    (append_assoc (map (λ (a : Address). owed.Named a) c.added) (unnamed w c) rest) h

pub IsWriting-drops : {N : Type 0} (d : Core N) (moment n : ℕ) (w v : ClientState) (c : Change) (rest : List Owed) →
    filter_map (number_of v) c.removed ≡ filter_map (number_of w) c.removed → IsWriting d moment (n + 2 + length c.removed) (unnamed w c ++ rest) →
    IsWriting d moment ((n + 2) + length c.removed) (map (λ host. owed.Dropped host) (filter_map (number_of v) c.removed) ++ (moved w c ++ rest))
IsWriting-drops d moment n w v c rest same h =
    IsWriting-same d moment (n + 2 + length c.removed) ((n + 2) + length c.removed) (unnamed w c ++ rest) _ (omega arith)
    (append_assoc (map (λ (x : ℕ). owed.Dropped x) (filter_map (number_of w) c.removed)) (moved w c) rest
    ∙ ap (λ (xs : List ℕ). map (λ (x : ℕ). owed.Dropped x) xs ++ (moved w c ++ rest)) (sym same)) h

pub IsWriting-readies : {N : Type 0} (d : Core N) (moment n : ℕ) (w v : ClientState) (c : Change) (rest : List Owed) →
    readied v (option_and_then (number_of v) c.ready) ≡ readied w (option_and_then (number_of w) c.ready) → IsWriting d moment (n + 2) (moved w c ++ rest) →
    IsWriting d moment ((n + 1) + 1) (readied v (option_and_then (number_of v) c.ready) ++ (cleared (option_and_then (number_of w) c.clear) ++ rest))
IsWriting-readies d moment n w v c rest same h =
    IsWriting-same d moment (n + 2) ((n + 1) + 1) (moved w c ++ rest) _ (omega arith)
    (append_assoc (readied w (option_and_then (number_of w) c.ready)) (cleared (option_and_then (number_of w) c.clear)) rest
    ∙ ap (λ (xs : List Owed). xs ++ (cleared (option_and_then (number_of w) c.clear) ++ rest)) (sym same)) h

-- ---- Hosts that are not touched

pub none-of : (o : Option Address) (xs : List Address) (a : Address) → IsNoneOf o xs → o ≡ Some a → IsNone a xs
none-of None xs a h e = absurd (cc)
none-of (Some b) xs a h e = let same : b ≡ a = (cc) in subst (λ x. IsNone x xs) same h

pub filter_map-untouched : (w v : ClientState) (added removed : List Address) → AreNone removed added → ((a : Address) → IsNone a added → IsUntouched w v a) →
    filter_map (number_of v) removed ≡ filter_map (number_of w) removed
filter_map-untouched w v added [] h u = refl
filter_map-untouched w v added (x ∷ xs) h u =
    ap (λ (o : Option ℕ). cons_option o (filter_map (number_of v) xs)) (u x h.0).number
    ∙ ap (cons_option (number_of w x)) (filter_map-untouched w v added xs h.1 u)

readied-server : (w v : ClientState) (o : Option ℕ) → ((x : ℕ) → o ≡ Some x → slice_get v.servers x ≡ slice_get w.servers x) → readied v o ≡ readied w o
readied-server w v None h = refl
readied-server w v (Some x) h =
    ap (λ (s : Option ServerState). if option_map_or (λ u. is_paused u.pool.state.state) s false then owed.PoolReady x ∷ [] else []) (h x refl)

pub readied-untouched : (w v : ClientState) (o : Option Address) → ((a : Address) → o ≡ Some a → IsUntouched w v a) →
    readied v (option_and_then (number_of v) o) ≡ readied w (option_and_then (number_of w) o)
readied-untouched w v None u = refl
readied-untouched w v (Some a) u = ap (readied v) (u a refl).number ∙ readied-server w v (number_of w a) (u a refl).server

pub cleared-numbered : (w v : ClientState) (o : Option Address) → ((a : Address) → o ≡ Some a → number_of v a ≡ number_of w a) →
    cleared (option_and_then (number_of v) o) ≡ cleared (option_and_then (number_of w) o)
cleared-numbered w v None n = refl
cleared-numbered w v (Some a) n = ap cleared (n a refl)

-- ---- What each step leaves to the next

pub record IsNamed {N : Type 0} (d e : Core N) (moment : ℕ) (hosts : List Address) : Type 0 where
  pub ok : (rest : List Owed) (n : ℕ) → IsWriting d moment (n + 2 * length hosts) (map (λ h. owed.Named h) hosts ++ rest) → IsWriting e moment n rest
  pub others : (a : Address) → IsNone a hosts → IsUntouched d.trail.point.state e.trail.point.state a

pub record IsDropped {N : Type 0} (d e : Core N) (moment : ℕ) (hosts : List Address) : Type 0 where
  pub writing : (rest : List Owed) (n : ℕ) →
      IsWriting d moment (n + length hosts) (map (λ x. owed.Dropped x) (filter_map (number_of d.trail.point.state) hosts) ++ rest) → IsWriting e moment n rest
  pub others : (a : Address) → IsNone a hosts → IsUntouched d.trail.point.state e.trail.point.state a

pub record IsReadied {N : Type 0} (d e : Core N) (moment : ℕ) (host : Option Address) : Type 0 where
  pub writing : (rest : List Owed) (n : ℕ) →
      IsWriting d moment (n + 1) (readied d.trail.point.state (option_and_then (number_of d.trail.point.state) host) ++ rest) → IsWriting e moment n rest
  pub numbers : (a : Address) → number_of e.trail.point.state a ≡ number_of d.trail.point.state a

module _ {N : Type 0} (d₀ d₁ d₂ d₃ : Core N) (moment : ℕ) (c : Change) (apart : AreApart c) (named : IsNamed d₀ d₁ moment c.added) where
  pub drops-next : (rest : List Owed) (n : ℕ) → IsWriting d₀ moment (n + entries_for c) (owed_by d₀.trail.point.state c ++ rest) →
      IsWriting d₁ moment ((n + 2) + length c.removed)
      (map (λ x. owed.Dropped x) (filter_map (number_of d₁.trail.point.state) c.removed) ++ (moved d₀.trail.point.state c ++ rest))
  drops-next rest n h =
      let w = d₀.trail.point.state in
      let v = d₁.trail.point.state in
      IsWriting-drops d₁ moment n w v c rest (filter_map-untouched w v c.added c.removed apart.kept named.others)
      (named.ok (unnamed w c ++ rest) (n + 2 + length c.removed) (IsWriting-names d₀ moment n w c rest h))

  module _ (dropped : IsDropped d₁ d₂ moment c.removed) where
    untouched : (a : Address) → IsNone a c.added → IsNone a c.removed → IsUntouched d₀.trail.point.state d₂.trail.point.state a
    untouched a x y = IsUntouched-trans d₀.trail.point.state d₁.trail.point.state d₂.trail.point.state a (named.others a x) (dropped.others a y)

    pub readies-next : (rest : List Owed) (n : ℕ) → IsWriting d₀ moment (n + entries_for c) (owed_by d₀.trail.point.state c ++ rest) →
        IsWriting d₂ moment ((n + 1) + 1)
        (readied d₂.trail.point.state (option_and_then (number_of d₂.trail.point.state) c.ready)
        ++ (cleared (option_and_then (number_of d₀.trail.point.state) c.clear) ++ rest))
    readies-next rest n h =
        let w = d₀.trail.point.state in
        let v = d₂.trail.point.state in
        IsWriting-readies d₂ moment n w v c rest
        (readied-untouched w v c.ready (λ a e. untouched a (none-of c.ready c.added a apart.ready_stays e) (none-of c.ready c.removed a apart.ready_is_left e)))
        (dropped.writing (moved w c ++ rest) (n + 2) (drops-next rest n h))

    pub clears-next : IsReadied d₂ d₃ moment c.ready → (rest : List Owed) (n : ℕ) → IsWriting d₀ moment (n + entries_for c) (owed_by d₀.trail.point.state c ++ rest) →
        IsWriting d₃ moment (n + 1) (cleared (option_and_then (number_of d₃.trail.point.state) c.clear) ++ rest)
    clears-next made rest n h =
        let w = d₀.trail.point.state in
        let v = d₃.trail.point.state in
        let same = cleared-numbered w v c.clear (λ a e.
        made.numbers a ∙ (untouched a (none-of c.clear c.added a apart.clear_stays e) (none-of c.clear c.removed a apart.clear_is_left e)).number) in
        IsWriting-same d₃ moment (n + 1) (n + 1) _ _ (omega arith) (ap (λ (xs : List Owed). xs ++ rest) (sym same))
        (made.writing (cleared (option_and_then (number_of w) c.clear) ++ rest) (n + 1) (readies-next rest n h))
