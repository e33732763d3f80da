-- How many bytes documents and sections have at least.
use Rattle.std.proofs.Common.{◌≤◌, ℕ, List, [], ◌∷◌, ◌++◌, length, ap, ◌∙◌, arith, length-append}
use Rattle.bson_doc.specs.declared.value.Document.{Document}
use Rattle.bson_doc.specs.wire.Spelling.{IsDocument, Spells, SpellsWithin}
use Rattle.msg_wire.specs.Framing.{AreSections, IsBody}
use Rattle.msg_wire.specs.declared.sequence.Sequence.{Sequence}

length-IsDocument : (Inner : List ℕ → Document → Type 0) (bytes : List ℕ) (document : Document) → IsDocument Inner bytes document → 5 ≤ length bytes
length-IsDocument Inner bytes document d =
    let whole = ap length d.parts ∙ length-append d.number (d.body ++ 0 ∷ []) in
    omega (arith, d.counts.size, length-append d.body (0 ∷ []))

-- A document has at least five bytes.
pub length-Spells : (bytes : List ℕ) (document : Document) → Spells bytes document → 5 ≤ length bytes
unfolding SpellsWithin
length-Spells bytes document s = length-IsDocument (SpellsWithin 99) bytes document s.within

pub length-IsBody : (bytes : List ℕ) (document : Document) → IsBody bytes document → 6 ≤ length bytes
length-IsBody bytes document b = omega (arith, ap length b.parts, length-Spells b.spelling document b.spells)

pub length-AreSections : (bytes : List ℕ) (body : Document) (sequences : List Sequence) → AreSections bytes body sequences → 6 ≤ length bytes
length-AreSections bytes body sequences s =
    omega (arith, ap length s.parts, length-append s.front (s.section ++ s.behind), length-append s.section s.behind, length-IsBody s.section body s.is_body)
