-- A connection that is lent was nobody's, and is of the generation of its pool.
use Rattle.std.proofs.Common.{◌≡◌, ℕ, List, [], ◌∷◌, ◌++◌, Some, refl, sym, ap, ◌∙◌, subst}
use Rattle.std.proofs.lemmas.Bool.{eq-eqb}
use Rattle.std.proofs.lemmas.List.{append-nil, append_assoc}
use Rattle.entry_judge.specs.declared.timed.Timed.{Timed}
use Rattle.entry_judge.specs.Groups.{entries_of}
use Rattle.entry_judge.specs.Judge.{state_after}
use Rattle.pool_book.specs.Entries.{PoolEntry}
use Rattle.pool_book.specs.Entries as pool
use Rattle.pool_book.specs.Judge.{IsTrail}
use Rattle.pool_book.specs.Laws.{IsFree}
use Rattle.pool_book.specs.declared.rules.PoolRules.{PoolRules}
use Rattle.desk_trail.specs.Clients.{Client, pool_rules}
use Rattle.desk_trail.specs.Facts.{Fact}
use Rattle.desk_trail.specs.Facts as fact
use Rattle.desk_trail.specs.Legal.{AreLegal, Point, beginning, point_after, point_behind}
use Rattle.desk_trail.specs.Parts.{of_pool, pool_part, pool_tells, told_from}
use Rattle.desk_trail.specs.Pools.{ticket_with}
use Rattle.desk_trail.proofs.CheckOutLemmas.{out_at}
use Rattle.desk_trail.proofs.OrderLemmas.{last-stands}
use Rattle.desk_trail.proofs.PoolLemmas.{pool-leads}
use Rattle.desk_trail.proofs.WhereLemmas.{named}

-- what one entry more tells
pub told_from-more : {A : Type 0} (client : Client) (tells : Point → Timed Fact → List A) (p : Point) (xs : List (Timed Fact)) (t : Timed Fact) →
    told_from client tells p (xs ++ t ∷ []) ≡ told_from client tells p xs ++ tells (state_after (point_after client) p xs) t
told_from-more client tells p [] t = append-nil (tells p t)
told_from-more client tells p (x ∷ xs) t =
    let q = point_after client p x in
    ap (λ ys. tells p x ++ ys) (told_from-more client tells q xs t)
    ∙ sym (append_assoc (tells p x) (told_from client tells q xs) (tells (state_after (point_after client) q xs) t))

-- what a law of pools says of each lent connection
abbrev pub LentWasFree : Type 0
LentWasFree = (rules : PoolRules) (ts : List (Timed PoolEntry)) (moment number conn : ℕ) →
    IsTrail rules (ts ++ record { at = moment; what = pool.Lent number conn } ∷ []) → IsFree (entries_of ts) conn

pub own-entry : (host moment : ℕ) (e : PoolEntry) → of_pool host moment (Some (host, e)) ≡ record { at = moment; what = e } ∷ []
own-entry host moment e = rw (eq-eqb host host refl) refl

pub lent-was-free : LentWasFree → (client : Client) (ts : List (Timed Fact)) (moment op host conn : ℕ) →
    AreLegal client (ts ++ record { at = moment; what = fact.Lent op host conn } ∷ []) → IsFree (entries_of (pool_part client host ts)) conn
lent-was-free law client ts moment op host conn l =
    let t : Timed Fact = record { at = moment; what = fact.Lent op host conn } in
    let p = point_behind client ts in
    let s = last-stands client (beginning client) ts t l in
    let n = named (ticket_with host) (λ k. pool.Lent k conn) p.state moment host (out_at p.state.commands op) s.rule in
    let tells : pool_tells host p t ≡ record { at = moment; what = pool.Lent n.number conn } ∷ [] =
    ap (λ o. of_pool host moment o) n.told ∙ own-entry host moment (pool.Lent n.number conn) in
    let part : pool_part client host (ts ++ t ∷ []) ≡ pool_part client host ts ++ record { at = moment; what = pool.Lent n.number conn } ∷ [] =
    told_from-more client (pool_tells host) (beginning client) ts t ∙ ap (λ xs. pool_part client host ts ++ xs) tells in
    law (pool_rules client) (pool_part client host ts) moment n.number conn
    (subst (IsTrail (pool_rules client)) part (pool-leads client host (ts ++ t ∷ []) l).legal)
