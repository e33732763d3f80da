-- Sections: what is read of them is what they hold, and what they hold is read.
use Rattle.std.proofs.Common.{◌≡◌, ℕ, zero, suc, ◌-◌, ◌≤◌, ◌<◌, Bool, true, false, cond, ltb, leb, List, [], ◌∷◌, ◌++◌, length, Option, Some, None, is_some, Result, Ok, refl, sym, ap, subst, ◌∙◌, append_assoc, arith, length-append, inl, inr, ◌⊎◌}
use Rattle.std.proofs.lemmas.Bool.{ltb-false, le-ltb}
use Rattle.std.proofs.lemmas.Bool.Decides.{nat_tests}
use Rattle.bson_doc.specs.Steps.{◌>>=◌}
use Rattle.bson_doc.specs.declared.value.Document.{Document}
use Rattle.bson_doc.proofs.Steps.{bind_ok, either_ok, err_ok, err_or, mapped-Ok, or_fault-Ok}
use Rattle.bson_doc.specs.wire.Reading.{flaw}
use Rattle.bson_doc.specs.wire.Reading as documents
use Rattle.bson_doc.proofs.wire.Outermost.{read_takes, read_again}
use Rattle.msg_wire.specs.Framing.{AreSections, AreSequences, IsBody, IsSequence}
use Rattle.msg_wire.specs.Sections.{Held, closed_at, document_at, section_at, sections_at, sequence_at, with_section}
use Rattle.msg_wire.specs.declared.fault.MsgFault.{MsgFault}
use Rattle.msg_wire.specs.declared.section.Section.{Section}
use Rattle.msg_wire.specs.declared.section.Section.TheVariants as section
use Rattle.msg_wire.specs.declared.sequence.Sequence.{Sequence}
use Rattle.msg_wire.proofs.DocumentLists.{document_at-ok}
use Rattle.msg_wire.proofs.SequenceLaws.{sequence_takes, sequence_again}
use Rattle.msg_wire.proofs.Sizes.{length-IsBody}

-- ---- one section

abbrev IsSection : List ℕ → Section → Type 0
IsSection text (section.Body document) = IsBody text document
IsSection text (section.Sequence s) = IsSequence text s

-- What was taken for a section.
record TakesSection (bytes : List ℕ) (x : Section) (rest : List ℕ) : Type 0 where
  text : List ℕ
  parts : bytes ≡ text ++ rest
  is : IsSection text x

section_takes : (found : Bool) (end : ℕ) (bytes : List ℕ) (x : Section × List ℕ) → section_at found end bytes ≡ Ok x → TakesSection bytes x.0 x.1
unfolding section_at
section_takes found end [] x e = absurd (err_ok e)
section_takes found end (zero ∷ rest) x e =
    let a = err_or found _ _ x e in
    let m = mapped-Ok (λ y. (section.Body y.0, y.1)) (document_at (end - length rest) (documents.read rest)) x a.1 in
    let t = read_takes rest m.0 (document_at-ok (end - length rest) (documents.read rest) m.0 m.1) in
    subst (λ (y : Section × List ℕ). TakesSection (0 ∷ rest) y.0 y.1) m.2 (record {
      text = 0 ∷ t.text;
      parts = ap (λ (xs : List ℕ). 0 ∷ xs) t.parts;
      is = record { spelling = t.text; parts = refl; spells = t.spells };
    })
section_takes found end (suc zero ∷ rest) x e =
    let m = mapped-Ok (λ y. (section.Sequence y.0, y.1)) (sequence_at end rest) x e in
    let t = sequence_takes end rest m.0 m.1 in
    subst (λ (y : Section × List ℕ). TakesSection (1 ∷ rest) y.0 y.1) m.2 (record {
      text = 1 ∷ t.text;
      parts = ap (λ (xs : List ℕ). 1 ∷ xs) t.parts;
      is = t.is;
    })
section_takes found end (suc (suc kind) ∷ rest) x e = absurd (err_ok e)

-- No second one of kind 0 is read.
abbrev IsKind1 : Section → Type 0
IsKind1 (section.Body document) = ⊥
IsKind1 (section.Sequence s) = Unit {0}

no_second : (end : ℕ) (bytes : List ℕ) (x : Section × List ℕ) → section_at true end bytes ≡ Ok x → IsKind1 x.0
unfolding section_at
no_second end [] x e = absurd (err_ok e)
no_second end (zero ∷ rest) x e = absurd (err_ok e)
no_second end (suc zero ∷ rest) x e =
    let m = mapped-Ok (λ y. (section.Sequence y.0, y.1)) (sequence_at end rest) x e in
    subst (λ (y : Section × List ℕ). IsKind1 y.0) m.2 tt
no_second end (suc (suc kind) ∷ rest) x e = absurd (err_ok e)

body_again : (end : ℕ) (text rest : List ℕ) (d : Document) → IsBody text d → section_at false end (text ++ rest) ≡ Ok (section.Body d, rest)
unfolding section_at
body_again end text rest d b =
    ap (λ (xs : List ℕ). section_at false end (xs ++ rest)) b.parts ∙ rw (read_again b.spelling rest d b.spells) refl

kind1_again : (found : Bool) (end : ℕ) (text rest : List ℕ) (s : Sequence) → IsSequence text s → section_at found end (text ++ rest) ≡ Ok (section.Sequence s, rest)
unfolding section_at
kind1_again found end text rest s is =
    ap (λ (xs : List ℕ). section_at found end (xs ++ rest)) is.parts ∙ rw (sequence_again end text rest s is) refl

-- ---- one section after another

unless_some : {A : Type 0} (b : Bool) (o : Option A) (x : A) → cond b None o ≡ Some x → (b ≡ false) × (o ≡ Some x)
unless_some true o x h = absurd cc
unless_some false o x h = (refl, h)

closed-ok : (spare end left : ℕ) (body : Option Document) (d : Document) → closed_at spare end left body ≡ Ok d → (spare ≤ left) × (body ≡ Some d)
closed-ok spare end left body d e =
    let a = unless_some (ltb left spare) body d (or_fault-Ok _ _ d e) in
    (ltb-false _ _ a.0, a.1)

pub sections_at-end : (fuel spare end : ℕ) (body : Option Document) (bytes : List ℕ) → length bytes ≤ spare
    → sections_at (suc fuel) spare end body bytes ≡ (closed_at spare end (length bytes) body >>= (λ document. Ok (document, [])))
unfolding sections_at
sections_at-end fuel spare end body bytes le = let test : leb (length bytes) spare ≡ true = grind (arith, nat_tests) in rw test refl

pub sections_at-more : (fuel spare end : ℕ) (body : Option Document) (bytes : List ℕ) → spare < length bytes
    → sections_at (suc fuel) spare end body bytes ≡ (section_at (is_some body) end bytes >>= with_section (sections_at fuel spare end) body)
unfolding sections_at
sections_at-more fuel spare end body bytes lt = let test : leb (length bytes) spare ≡ false = grind (arith, nat_tests) in rw test refl

closed_again : (fuel spare end : ℕ) (d : Document) (bytes : List ℕ) → length bytes ≡ spare → sections_at (suc fuel) spare end (Some d) bytes ≡ Ok (d, [])
closed_again fuel spare end d bytes size =
    let test : ltb (length bytes) spare ≡ false = le-ltb _ _ (omega arith) in
    sections_at-end fuel spare end (Some d) bytes (omega arith) ∙ rw test refl

-- Where reading ended, and where it went on with a section.
abbrev Ends : ℕ → ℕ → Option Document → List ℕ → Held → Type 0
Ends spare end body bytes x = (d : Document) × (body ≡ Some d) × (length bytes ≡ spare) × (x ≡ (d, []))

abbrev GoesFurther : ℕ → ℕ → ℕ → Option Document → List ℕ → Held → Type 0
GoesFurther fuel spare end body bytes x =
    (s : Section × List ℕ) × (section_at (is_some body) end bytes ≡ Ok s) × (with_section (sections_at fuel spare end) body s ≡ Ok x)

parted : (fuel spare end : ℕ) (body : Option Document) (bytes : List ℕ) (x : Held) → sections_at (suc fuel) spare end body bytes ≡ Ok x
    → Ends spare end body bytes x ⊎ GoesFurther fuel spare end body bytes x
unfolding sections_at
parted fuel spare end body bytes x e = elim (either_ok (leb (length bytes) spare) _ _ x e) [
  | inl closes ↦
      let le : length bytes ≤ spare = grind (arith, nat_tests, closes.0) in
      let m = mapped-Ok (λ document. (document, [])) (closed_at spare end (length bytes) body) x closes.1 in
      let c = closed-ok spare end (length bytes) body m.0 m.1 in
      inl (m.0, c.1, omega (arith, le, c.0), sym m.2)
  | inr goes ↦
      inr (bind_ok (section_at (is_some body) end bytes) (with_section (sections_at fuel spare end) body) x goes.1)
]

-- What is read behind the body: sections of kind 1, and what is left.
record After (spare : ℕ) (bytes : List ℕ) (d : Document) (x : Held) : Type 0 where
  text : List ℕ
  left : List ℕ
  parts : bytes ≡ text ++ left
  are : AreSequences text x.1
  size : length left ≡ spare
  same : x.0 ≡ d

after_kind1 : (F : Option Document → List ℕ → Result Held MsgFault) (spare : ℕ) (d : Document) (bytes : List ℕ) (s : Section × List ℕ) (x : Held)
    → ((rest : List ℕ) (y : Held) → F (Some d) rest ≡ Ok y → After spare rest d y) → TakesSection bytes s.0 s.1 → IsKind1 s.0 → with_section F (Some d) s ≡ Ok x → After spare bytes d x
after_kind1 F spare d bytes (section.Body b, rest) x others t only e = absurd only
after_kind1 F spare d bytes (section.Sequence q, rest) x others t only e =
    let m = mapped-Ok (λ y. (y.0, q ∷ y.1)) (F (Some d) rest) x e in
    let a = others rest m.0 m.1 in
    subst (After spare bytes d) m.2 (record {
      text = t.text ++ a.text;
      left = a.left;
      parts = t.parts ∙ ap (λ (xs : List ℕ). t.text ++ xs) a.parts ∙ sym (append_assoc t.text a.text a.left);
      are = (t.text, a.text, refl, t.is, a.are);
      size = a.size;
      same = a.same;
    })

after_takes : (fuel spare end : ℕ) (d : Document) (bytes : List ℕ) (x : Held) → sections_at fuel spare end (Some d) bytes ≡ Ok x → After spare bytes d x
unfolding sections_at
after_takes zero spare end d bytes x e = absurd (err_ok e)
after_takes (suc fuel) spare end d bytes x e = elim (parted fuel spare end (Some d) bytes x e) [
  | inl ends ↦
      subst (After spare bytes d) (sym ends.3) (record { text = []; left = bytes; parts = refl; are = refl; size = ends.2; same = cc (ends.1) })
  | inr goes ↦
      after_kind1 (sections_at fuel spare end) spare d bytes goes.0 x (after_takes fuel spare end d) (section_takes true end bytes goes.0 goes.1) (no_second end bytes goes.0 goes.1) goes.2
]

-- What is read of sections, and what is left.
pub record TakesSections (spare : ℕ) (bytes : List ℕ) (x : Held) : Type 0 where
  pub text : List ℕ
  pub left : List ℕ
  pub parts : bytes ≡ text ++ left
  pub are : AreSections text x.0 x.1
  pub size : length left ≡ spare

takes_body : (spare : ℕ) (bytes rest : List ℕ) (d : Document) (x : Held) → TakesSection bytes (section.Body d) rest → After spare rest d x → TakesSections spare bytes x
takes_body spare bytes rest d x t a = record {
  text = t.text ++ a.text;
  left = a.left;
  parts = t.parts ∙ ap (λ (xs : List ℕ). t.text ++ xs) a.parts ∙ sym (append_assoc t.text a.text a.left);
  are = record {
    front = [];
    section = t.text;
    behind = a.text;
    earlier = [];
    later = x.1;
    parts = refl;
    are_earlier = refl;
    is_body = subst (λ (y : Document). IsBody t.text y) (sym a.same) t.is;
    are_later = a.are;
    in_order = refl;
  };
  size = a.size;
}

takes_kind1 : (spare : ℕ) (bytes rest : List ℕ) (q : Sequence) (y : Held) → TakesSection bytes (section.Sequence q) rest → TakesSections spare rest y → TakesSections spare bytes (y.0, q ∷ y.1)
takes_kind1 spare bytes rest q y t a = record {
  text = t.text ++ a.text;
  left = a.left;
  parts = t.parts ∙ ap (λ (xs : List ℕ). t.text ++ xs) a.parts ∙ sym (append_assoc t.text a.text a.left);
  are = record {
    front = t.text ++ a.are.front;
    section = a.are.section;
    behind = a.are.behind;
    earlier = q ∷ a.are.earlier;
    later = a.are.later;
    parts = ap (λ (xs : List ℕ). t.text ++ xs) a.are.parts ∙ sym (append_assoc t.text a.are.front (a.are.section ++ a.are.behind));
    are_earlier = (t.text, a.are.front, refl, t.is, a.are.are_earlier);
    is_body = a.are.is_body;
    are_later = a.are.are_later;
    in_order = ap (λ (qs : List Sequence). q ∷ qs) a.are.in_order;
  };
  size = a.size;
}

takes_with : (fuel spare end : ℕ) (bytes : List ℕ) (s : Section × List ℕ) (x : Held)
    → ((rest : List ℕ) (y : Held) → sections_at fuel spare end None rest ≡ Ok y → TakesSections spare rest y) → TakesSection bytes s.0 s.1 → with_section (sections_at fuel spare end) None s ≡ Ok x → TakesSections spare bytes x
takes_with fuel spare end bytes (section.Body b, rest) x others t e = takes_body spare bytes rest b x t (after_takes fuel spare end b rest x e)
takes_with fuel spare end bytes (section.Sequence q, rest) x others t e =
    let m = mapped-Ok (λ y. (y.0, q ∷ y.1)) (sections_at fuel spare end None rest) x e in
    subst (TakesSections spare bytes) m.2 (takes_kind1 spare bytes rest q m.0 t (others rest m.0 m.1))

pub sections_take : (fuel spare end : ℕ) (bytes : List ℕ) (x : Held) → sections_at fuel spare end None bytes ≡ Ok x → TakesSections spare bytes x
unfolding sections_at
sections_take zero spare end bytes x e = absurd (err_ok e)
sections_take (suc fuel) spare end bytes x e = elim (parted fuel spare end None bytes x e) [
  | inl ends ↦ absurd cc (ends.1)
  | inr goes ↦ takes_with fuel spare end bytes goes.0 x (sections_take fuel spare end) (section_takes false end bytes goes.0 goes.1) goes.2
]

-- ---- what is framed so is read

length-IsSequence : (text : List ℕ) (s : Sequence) → IsSequence text s → 0 < length text
length-IsSequence text s is = omega (arith, ap length is.parts)

-- One more section of kind 1.
kind1_more : (fuel spare end : ℕ) (body : Option Document) (text rest : List ℕ) (s : Sequence) (x : Held) → spare < length (text ++ rest) → IsSequence text s → sections_at fuel spare end body rest ≡ Ok x
    → sections_at (suc fuel) spare end body (text ++ rest) ≡ Ok (x.0, s ∷ x.1)
kind1_more fuel spare end body text rest s x lt is e =
    sections_at-more fuel spare end body (text ++ rest) lt ∙ rw (kind1_again (is_some body) end text rest s is, e) refl

later_again : (ss : List Sequence) (fuel spare end : ℕ) (d : Document) (text left : List ℕ) → length (text ++ left) < fuel → length left ≡ spare → AreSequences text ss
    → sections_at fuel spare end (Some d) (text ++ left) ≡ Ok (d, ss)
later_again ss zero spare end d text left lt size h = absurd (omega arith)
later_again [] (suc fuel) spare end d text left lt size h = ap (λ (xs : List ℕ). sections_at (suc fuel) spare end (Some d) (xs ++ left)) h ∙ closed_again fuel spare end d left size
later_again (s ∷ ss) (suc fuel) spare end d text left lt size (first, others, parts, is, more) =
    let whole : text ++ left ≡ first ++ (others ++ left) = ap (λ (xs : List ℕ). xs ++ left) parts ∙ append_assoc first others left in
    let some = length-IsSequence first s is in
    let count = ap length whole ∙ length-append first (others ++ left) in
    let rest = length-append others left in
    let read = later_again ss fuel spare end d others left (omega arith) size more in
    ap (sections_at (suc fuel) spare end (Some d)) whole ∙ kind1_more fuel spare end (Some d) first (others ++ left) s (d, ss) (omega (arith, length-append first (others ++ left))) is read

earlier_again : (ss : List Sequence) (fuel spare end : ℕ) (text behind : List ℕ) (d : Document) (later : List Sequence) → length (text ++ behind) < fuel → spare < length behind
    → ((k : ℕ) → length behind < k → sections_at k spare end None behind ≡ Ok (d, later)) → AreSequences text ss
    → sections_at fuel spare end None (text ++ behind) ≡ Ok (d, ss ++ later)
earlier_again ss zero spare end text behind d later lt size read h = absurd (omega arith)
earlier_again [] (suc fuel) spare end text behind d later lt size read h =
    let count = length-append text behind in
    ap (λ (xs : List ℕ). sections_at (suc fuel) spare end None (xs ++ behind)) h ∙ read (suc fuel) (omega arith)
earlier_again (s ∷ ss) (suc fuel) spare end text behind d later lt size read (first, others, parts, is, more) =
    let whole : text ++ behind ≡ first ++ (others ++ behind) = ap (λ (xs : List ℕ). xs ++ behind) parts ∙ append_assoc first others behind in
    let some = length-IsSequence first s is in
    let count = ap length whole ∙ length-append first (others ++ behind) in
    let rest = length-append others behind in
    let inner = earlier_again ss fuel spare end others behind d later (omega arith) size read more in
    ap (sections_at (suc fuel) spare end None) whole ∙ kind1_more fuel spare end None first (others ++ behind) s (d, ss ++ later) (omega (arith, length-append first (others ++ behind))) is inner

from_body : (fuel spare end : ℕ) (section behind left : List ℕ) (d : Document) (later : List Sequence) → length (section ++ (behind ++ left)) < fuel → length left ≡ spare → IsBody section d → AreSequences behind later
    → sections_at fuel spare end None (section ++ (behind ++ left)) ≡ Ok (d, later)
from_body zero spare end section behind left d later lt size b h = absurd (omega arith)
from_body (suc fuel) spare end section behind left d later lt size b h =
    let some = length-IsBody section d b in
    let count = length-append section (behind ++ left) in
    let rest = length-append behind left in
    let read = later_again later fuel spare end d behind left (omega arith) size h in
    sections_at-more fuel spare end None (section ++ (behind ++ left)) (omega arith) ∙ rw (body_again end section (behind ++ left) d b, read) refl

pub sections_again : (fuel spare end : ℕ) (text left : List ℕ) (d : Document) (ss : List Sequence) → length (text ++ left) < fuel → length left ≡ spare → AreSections text d ss
    → sections_at fuel spare end None (text ++ left) ≡ Ok (d, ss)
sections_again fuel spare end text left d ss lt size h =
    let behind : List ℕ = h.section ++ (h.behind ++ left) in
    let whole : text ++ left ≡ h.front ++ behind =
    ap (λ (xs : List ℕ). xs ++ left) h.parts ∙ append_assoc h.front (h.section ++ h.behind) left ∙ ap (λ (xs : List ℕ). h.front ++ xs) (append_assoc h.section h.behind left) in
    let some = length-IsBody h.section d h.is_body in
    let count = length-append h.section (h.behind ++ left) in
    let rest = length-append h.behind left in
    let read = earlier_again h.earlier fuel spare end h.front behind d h.later (omega (arith, ap length whole)) (omega arith)
    (λ k few. from_body k spare end h.section h.behind left d h.later few size h.is_body h.are_later) h.are_earlier in
    ap (sections_at fuel spare end None) whole ∙ read ∙ ap (λ (qs : List Sequence). Ok (d, qs)) (sym h.in_order)
