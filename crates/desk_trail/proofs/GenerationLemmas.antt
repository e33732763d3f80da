-- A lent connection is of the generation that its pool has as it is lent.
use Rattle.std.proofs.Common.{◌≡◌, ℕ, List, [], ◌∷◌, ◌++◌, Some, refl, sym, ap, ◌∙◌, subst}
use Rattle.std.specs.Prelude.{slice_get, All}
use Rattle.std.specs.Bool.{◌==◌}
use Rattle.std.specs.List.{position_or_len}
use Rattle.std.proofs.lemmas.List.Folds.{find_at}
use Rattle.std.proofs.lemmas.Option.{slice_get_within, get_or_from_slice_get}
use Rattle.entry_judge.specs.declared.timed.Timed.{Timed}
use Rattle.entry_judge.specs.Groups.{Place, entries_of}
use Rattle.entry_judge.specs.Judge.{state_after}
use Rattle.entry_judge.specs.LegalLaws.{state_after-append}
use Rattle.pool_book.specs.Entries.{PoolEntry, Lent, NotLent, ConnShut}
use Rattle.pool_book.specs.Judge.{IsTrail, entries_and_owed, place_behind, pool_behind}
use Rattle.pool_book.specs.Laws.{generation_of, none_begun}
use Rattle.pool_book.specs.Pool.{Pool, held_of}
use Rattle.pool_book.specs.Readings.{Beginnings, dials_by, generation_by}
use Rattle.pool_book.specs.declared.connections.Held.{Held}
use Rattle.pool_book.specs.declared.rules.PoolRules.{PoolRules}
use Rattle.desk_trail.specs.Clients.{Client, pool_rules}
use Rattle.desk_trail.specs.Facts.{Fact}
use Rattle.desk_trail.specs.Facts as fact
use Rattle.desk_trail.specs.Legal.{AreLegal, beginning, point_behind}
use Rattle.desk_trail.specs.Parts.{of_pool, pool_part, pool_tells}
use Rattle.desk_trail.specs.Pools.{ticket_with}
use Rattle.desk_trail.specs.States.{ServerState}
use Rattle.desk_trail.proofs.CheckOutLemmas.{out_at}
use Rattle.desk_trail.proofs.HeldLemmas.{AllOk, held-conn}
use Rattle.desk_trail.proofs.LentFreeLemmas.{LentWasFree, own-entry, told_from-more}
use Rattle.desk_trail.proofs.OrderLemmas.{last-stands}
use Rattle.desk_trail.proofs.PoolLemmas.{pool-leads, pool-place, pool_or}
use Rattle.desk_trail.proofs.WhereLemmas.{StandsOnce, meets, named}

-- ---- What must come next of a pool clears nothing and dials nothing

paid-dials : (p : Pool) (ds : List PoolEntry) (d : Beginnings) → AllOk p ds → state_after dials_by d ds ≡ d
paid-dials p [] d k = refl
paid-dials p (Lent number conn ∷ ds) d k = paid-dials p ds d k.1
paid-dials p (NotLent number why ∷ ds) d k = paid-dials p ds d k.1
paid-dials p (ConnShut conn reason ∷ ds) d k = paid-dials p ds d k.1
paid-dials p (e ∷ ds) d k = absurd k.0

paid-generation : (p : Pool) (ds : List PoolEntry) (g : ℕ) → AllOk p ds → state_after generation_by g ds ≡ g
paid-generation p [] g k = refl
paid-generation p (Lent number conn ∷ ds) g k = paid-generation p ds g k.1
paid-generation p (NotLent number why ∷ ds) g k = paid-generation p ds g k.1
paid-generation p (ConnShut conn reason ∷ ds) g k = paid-generation p ds g k.1
paid-generation p (e ∷ ds) g k = absurd k.0

entries-more : (xs : List (Timed PoolEntry)) (x : Timed PoolEntry) → entries_of (xs ++ x ∷ []) ≡ entries_of xs ++ x.what ∷ []
entries-more [] x = refl
entries-more (y ∷ ys) x = ap (λ zs. y.what ∷ zs) (entries-more ys x)

-- what is read of entries, a lent one and what must follow
read-all : {X : Type 0} (f : X → PoolEntry → X) (z : X) (xs : List (Timed PoolEntry)) (x : Timed PoolEntry) (ds : List PoolEntry) →
    ((y : X) → f y x.what ≡ y) → ((y : X) → state_after f y ds ≡ y) → state_after f z (entries_of (xs ++ x ∷ []) ++ ds) ≡ state_after f z (entries_of xs)
read-all f z xs x ds one rest =
    state_after-append f z (entries_of (xs ++ x ∷ [])) ds ∙ rest (state_after f z (entries_of (xs ++ x ∷ [])))
    ∙ ap (λ es. state_after f z es) (entries-more xs x) ∙ state_after-append f z (entries_of xs) (x.what ∷ []) ∙ one (state_after f z (entries_of xs))

All-held : (P : Held → Type 0) (hs : List Held) (conn : ℕ) (h : Held) → All P hs → held_of conn hs ≡ Some h → P h
All-held P hs conn h all e =
    let p = λ (x : Held). x.conn == conn in
    let k = position_or_len p hs in
    let at : slice_get hs k ≡ Some h = sym (find_at p hs) ∙ e in
    subst P (get_or_from_slice_get hs k h h at) (all k h (slice_get_within hs k h at))

-- ---- What laws of pools say

abbrev pub OfTheirDial : Type 0
OfTheirDial = (rules : PoolRules) (ts : List (Timed PoolEntry)) → IsTrail rules ts →
    All (λ h. generation_of h.conn (state_after dials_by none_begun (entries_and_owed rules ts)).begun ≡ Some h.generation) (pool_behind rules ts).lent

abbrev pub ClearsCounted : Type 0
ClearsCounted = (rules : PoolRules) (ts : List (Timed PoolEntry)) → IsTrail rules ts →
    state_after generation_by 0 (entries_and_owed rules ts) ≡ (pool_behind rules ts).generation

current-in : OfTheirDial → ClearsCounted → LentWasFree → (rules : PoolRules) (part : List (Timed PoolEntry)) (moment number conn : ℕ) (h : Held) →
    let all = part ++ record { at = moment; what = Lent number conn } ∷ [] in
    IsTrail rules all → AllOk (place_behind rules all).state (place_behind rules all).owed → held_of conn (pool_behind rules all).lent ≡ Some h →
    h.generation ≡ (pool_behind rules all).generation
current-in dial clears was rules part moment number conn h l ok found =
    let x : Timed PoolEntry = record { at = moment; what = Lent number conn } in
    let all = part ++ x ∷ [] in
    let q = place_behind rules all in
    let free = was rules part moment number conn l in
    let read : state_after dials_by none_begun (entries_and_owed rules all) ≡ state_after dials_by none_begun (entries_of part) =
    read-all dials_by none_begun part x q.owed (λ y. refl) (λ y. paid-dials q.state q.owed y ok) in
    let count : state_after generation_by 0 (entries_and_owed rules all) ≡ state_after generation_by 0 (entries_of part) =
    read-all generation_by 0 part x q.owed (λ y. refl) (λ y. paid-generation q.state q.owed y ok) in
    let own = All-held (λ (k : Held). generation_of k.conn (state_after dials_by none_begun (entries_and_owed rules all)).begun ≡ Some k.generation) q.state.lent conn h (dial rules all l) found in
    let its : generation_of conn (state_after dials_by none_begun (entries_of part)).begun ≡ Some h.generation =
    subst (λ (d : Beginnings). generation_of conn d.begun ≡ Some h.generation) read
    (subst (λ n. generation_of n (state_after dials_by none_begun (entries_and_owed rules all)).begun ≡ Some h.generation) (held-conn q.state.lent conn h found) own) in
    let now = free.current in
    let one : h.generation ≡ state_after generation_by 0 (entries_of part) = cc in
    one ∙ sym count ∙ clears rules all l

pub lent-is-current : StandsOnce → OfTheirDial → ClearsCounted → LentWasFree → (client : Client) (ts : List (Timed Fact)) (moment op host conn : ℕ) (s : ServerState) (h : Held) →
    let all = ts ++ record { at = moment; what = fact.Lent op host conn } ∷ [] in
    AreLegal client all → slice_get (point_behind client all).state.servers host ≡ Some s → held_of conn s.pool.state.lent ≡ Some h →
    h.generation ≡ s.pool.state.generation
lent-is-current once dial clears was client ts moment op host conn s h l there found =
    let t : Timed Fact = record { at = moment; what = fact.Lent op host conn } in
    let all = ts ++ t ∷ [] in
    let p = point_behind client ts in
    let rules = pool_rules client in
    let n = named (ticket_with host) (λ k. Lent k conn) p.state moment host (out_at p.state.commands op) (last-stands client (beginning client) ts t l).rule in
    let x : Timed PoolEntry = record { at = moment; what = Lent n.number conn } in
    let part = pool_part client host ts in
    let parts : pool_part client host all ≡ part ++ x ∷ [] =
    told_from-more client (pool_tells host) (beginning client) ts t
    ∙ ap (λ xs. part ++ xs) (ap (λ o. of_pool host moment o) n.told ∙ own-entry host moment (Lent n.number conn)) in
    let place : s.pool ≡ place_behind rules (part ++ x ∷ []) = pool-place client host all s l there ∙ ap (λ xs. place_behind rules xs) parts in
    let is : IsTrail rules (part ++ x ∷ []) = subst (IsTrail rules) parts (pool-leads client host all l).legal in
    let ok : AllOk s.pool.state s.pool.owed = subst (λ o. AllOk (pool_or client o).state (pool_or client o).owed) there ((meets once client all l).ok host) in
    subst (λ (q : Place Pool PoolEntry). h.generation ≡ q.state.generation) (sym place)
    (current-in dial clears was rules part moment n.number conn h is
    (subst (λ (q : Place Pool PoolEntry). AllOk q.state q.owed) place ok) (subst (λ (q : Place Pool PoolEntry). held_of conn q.state.lent ≡ Some h) place found))
