-- What is kept behind a list of times is the first of those with the greatest stamp.
use Rattle.std.specs.Prelude.{◌≡◌, ◌<◌, ◌≤◌, nat_lt, Bool, true, false, List, [], ◌∷◌, ◌++◌, Option, None, Some, if◌then◌else◌}
use Rattle.std.proofs.Common.{refl, sym, subst, arith}
use Rattle.std.proofs.lemmas.Bool.{ltb-false, ltb-true}
use Rattle.std.proofs.lemmas.List.{append_assoc, append-nil}
use Rattle.std.proofs.lemmas.List.Elements.{All-append, All-nil, All-cons, All-push, All-weaker}
use Rattle.bson_doc.specs.declared.cluster_time.ClusterTime.{ClusterTime}
use Rattle.time_gossip.specs.Times.{greater, kept_behind, IsFirstGreatest}

-- One more time: the choice of the two is the first of the greatest.
greater-by : (b : Bool) (seen : List ClusterTime) (kept came : ClusterTime) → nat_lt kept.stamp came.stamp ≡ b
    → IsFirstGreatest seen (Some kept) → IsFirstGreatest (seen ++ came ∷ []) (if b then Some came else Some kept)
greater-by true seen kept came lower (before, after, parts, below, above) =
    let Below : ClusterTime → Type 0 = λ t. t.stamp < came.stamp in
    let less : kept.stamp < came.stamp = ltb-true kept.stamp came.stamp lower in (
      seen,
      [],
      refl,
      rw parts (All-append Below before (kept ∷ after)
          (All-weaker (λ t. t.stamp < kept.stamp) Below (λ t l. omega (arith, less, l)) before below)
          (All-cons Below kept after less (All-weaker (λ t. t.stamp ≤ kept.stamp) Below (λ t l. omega (arith, less, l)) after above))),
      All-nil (λ t. t.stamp ≤ came.stamp),
    )
greater-by false seen kept came not_lower (before, after, parts, below, above) = (
  before,
  after ++ came ∷ [],
  rw parts (append_assoc before (kept ∷ after) (came ∷ [])),
  below,
  All-push (λ t. t.stamp ≤ kept.stamp) after came above (ltb-false kept.stamp came.stamp not_lower),
)

greater-first : (seen : List ClusterTime) (kept : Option ClusterTime) (came : ClusterTime)
    → IsFirstGreatest seen kept → IsFirstGreatest (seen ++ came ∷ []) (greater kept came)
greater-first seen None came none =
    rw none ([], [], refl, All-nil (λ t. t.stamp < came.stamp), All-nil (λ t. t.stamp ≤ came.stamp))
greater-first seen (Some kept) came first = greater-by (nat_lt kept.stamp came.stamp) seen kept came refl first

-- Behind a list of times that came before, and one that comes.
pub kept_behind-first : (seen : List ClusterTime) (kept : Option ClusterTime) (came : List ClusterTime)
    → IsFirstGreatest seen kept → IsFirstGreatest (seen ++ came) (kept_behind kept came)
kept_behind-first seen kept [] first = subst (λ ts. IsFirstGreatest ts kept) (sym (append-nil seen)) first
kept_behind-first seen kept (time ∷ later) first =
    subst (λ ts. IsFirstGreatest ts (kept_behind (greater kept time) later)) (append_assoc seen (time ∷ []) later)
    (kept_behind-first (seen ++ time ∷ []) (greater kept time) later (greater-first seen kept time first))
