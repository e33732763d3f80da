-- Fronts of messages, as bytes come.
use Rattle.std.proofs.Common.{◌≡◌, ◌≢◌, ◌⊎◌, ◌≤◌, ◌<◌, ◌-◌, ℕ, Bool, true, false, List, [], ◌∷◌, ◌++◌, Option, None, Some, length, take, drop, arith, inl, inr, refl, sym, ap, ◌∙◌, subst, length-append, cond, append-nil, lit≤}
use Rattle.std.proofs.lemmas.Bool.{cases_lt}
use Rattle.std.proofs.lemmas.Bool.Decides.{nat_tests}
use Rattle.std.proofs.lemmas.List.{take-append-drop, take-append-le, take_all, nil_from_length}
use Rattle.std.proofs.Math.Seq.{take-append_seam}
use Rattle.msg_wire.specs.Framing.{Framed}
use Rattle.msg_wire.specs.Reading.{flaw, is_length, number_at}
use Rattle.msg_wire.specs.declared.fault.MsgFault.{MsgFault}
use Rattle.msg_wire.specs.declared.fault.MsgFault.TheVariants as fault
use Rattle.msg_wire.specs.declared.message.Message.{Message}
use Rattle.msg_wire.proofs.Asked.{asks, settled, still_short, flaw-nil}
use Rattle.msg_wire.proofs.Whole.{flaw-framed}
use Rattle.net_link.specs.Turns.{added, AddsUpTo}
use Rattle.net_link.specs.declared.net.Came.{Came}
use Rattle.net_link.specs.declared.net.Came.TheVariants as came
use Rattle.msg_wire.specs.Fronts.{IsFront, HasNoneTooMany}

-- A fault asks for more bytes, or does not.
short_cases : (found : Option MsgFault) → ((n : ℕ) × (found ≡ Some (fault.Short n))) ⊎ ((n : ℕ) → found ≢ Some (fault.Short n))
short_cases None = inr (λ n e. cc)
short_cases (Some (fault.Short need)) = inl (need, refl)
short_cases (Some (fault.Length got)) = inr (λ n e. cc)
short_cases (Some (fault.Opcode got)) = inr (λ n e. cc)
short_cases (Some (fault.Flags bit)) = inr (λ n e. cc)
short_cases (Some (fault.Sections at)) = inr (λ n e. cc)
short_cases (Some (fault.Body at inner)) = inr (λ n e. cc)
short_cases (Some fault.Memory) = inr (λ n e. cc)

-- What lacks bytes of a front is a front.
front-less : (front more : List ℕ) → IsFront (front ++ more) → IsFront front
front-less front more whole = elim (short_cases (flaw front)) [
  | inl asked ↦ record { need = asked.0; short = asked.1 }
  | inr other ↦ absurd (other whole.need (sym (settled front more other) ∙ whole.short))
]

some-length : (xs : List ℕ) → xs ≢ [] → 0 < length xs
some-length [] some = absurd (some refl)
some-length (x ∷ xs) some = omega arith

-- Of two ways to part a list the shorter front begins the longer one.
front-begins : (a b xs ys : List ℕ) → a ++ b ≡ xs ++ ys → length xs ≤ length a → a ≡ xs ++ drop (length xs) a
front-begins a b xs ys same short =
    let begins : take (length xs) a ≡ xs = sym (take-append-le (length xs) a b short) ∙ ap (take (length xs)) same ∙ take-append_seam xs ys in
    sym (take-append-drop (length xs) a) ∙ ap (λ (l : List ℕ). l ++ drop (length xs) a) begins

-- A front with no more behind it than it asks for has none too many.
pub none_too_many : (bytes more : List ℕ) (n : ℕ) → flaw bytes ≡ Some (fault.Short n) → length (bytes ++ more) ≤ n → HasNoneTooMany (bytes ++ more)
none_too_many bytes more n short within front rest joined some = elim (cases_lt (length bytes) (length front)) [
  | inl longer ↦
      let begins : front ≡ bytes ++ drop (length bytes) front = front-begins front rest bytes more (sym joined) (omega arith) in
      let few : length front < n = omega (arith, ap length joined, length-append front rest, some-length rest some, within) in
      record { need = n; short = ap flaw begins ∙ still_short bytes (drop (length bytes) front) n short (subst (λ (l : List ℕ). length l < n) begins few) }
  | inr shorter ↦
      let begins : bytes ≡ front ++ drop (length front) bytes = front-begins bytes more front rest joined shorter in
      front-less front (drop (length front) bytes) (subst IsFront begins (record { need = n; short = short }))
]

pub none_too_many-nil : HasNoneTooMany []
none_too_many-nil = none_too_many [] [] 16 flaw-nil (lit≤ tt)

-- A front itself has none too many.
pub none_too_many-front : (bytes : List ℕ) (n : ℕ) → flaw bytes ≡ Some (fault.Short n) → HasNoneTooMany bytes
none_too_many-front bytes n short =
    subst HasNoneTooMany (append-nil bytes) (none_too_many bytes [] n short (omega (arith, (asks bytes n short).more, ap length (append-nil bytes))))

pub flaw-whole : (text : List ℕ) (message : Message) → Framed text message → flaw text ≡ None
flaw-whole text message framed =
    flaw-framed text (length text) message (subst (λ (l : List ℕ). Framed l message) (sym (take_all (length text) text (omega arith))) framed)

-- A message at the front of bytes of which none is one too many is all of them.
pub all_of_it : (bytes : List ℕ) (n : ℕ) (message : Message) → HasNoneTooMany bytes → Framed (take n bytes) message → Framed bytes message
all_of_it bytes n message early framed = elim (cases_lt 0 (length (drop n bytes))) [
  | inl behind ↦
      let front : IsFront (take n bytes) = early (take n bytes) (drop n bytes) (sym (take-append-drop n bytes)) (λ none. omega (arith, behind, ap length none)) in
      let clash : None ≡ Some (fault.Short front.need) = sym (flaw-whole (take n bytes) message framed) ∙ front.short in
      cc
  | inr none ↦
      let same : take n bytes ≡ bytes = sym (append-nil (take n bytes)) ∙ ap (λ (l : List ℕ). take n bytes ++ l) (sym (nil_from_length (drop n bytes) (omega arith))) ∙ take-append-drop n bytes in
      subst (λ (l : List ℕ). Framed l message) same framed
]

-- A length that was read is in its range.
read_length : (few fits : Bool) (total n : ℕ) → cond few None (cond fits (Some total) None) ≡ Some n → (fits ≡ true) × (total ≡ n)
read_length true fits total n e = cc
read_length false true total n e = (refl, cc)
read_length false false total n e = cc

is_length-most : (n : ℕ) → is_length n ≡ true → n ≤ 48000000
is_length-most n fits = grind (arith, nat_tests, fits)

-- What is asked for is more than is there, and no more than a message may have.
pub asks-most : (bytes : List ℕ) (n : ℕ) → flaw bytes ≡ Some (fault.Short n) → n ≤ 48000000
asks-most bytes n short = elim (cases_lt (length bytes) 16) [
  | inl few ↦ omega (arith, (asks bytes n short).header few)
  | inr there ↦
      let length_read = read_length _ _ (number_at 0 bytes) n ((asks bytes n short).message there) in
      is_length-most n (subst (λ (k : ℕ). is_length k ≡ true) length_read.1 length_read.0)
]

pub asks-more : (bytes : List ℕ) (n : ℕ) → flaw bytes ≡ Some (fault.Short n) → length bytes < n
asks-more bytes n short = (asks bytes n short).more

pub front-no_message : (bytes : List ℕ) → IsFront bytes → flaw bytes ≢ None
front-no_message bytes front none = let clash : None ≡ Some (fault.Short front.need) = sym none ∙ front.short in cc

adds-within : (most : ℕ) (bytes : List ℕ) (answer : Came) → AddsUpTo most bytes answer → length bytes ≤ most
adds-within most bytes (came.Got n) adds = omega (arith, adds.1, adds.2)
adds-within most bytes came.NotYet adds = omega (arith, adds)
adds-within most bytes came.End adds = omega (arith, adds)
adds-within most bytes came.Failed adds = omega (arith, adds)
adds-within most bytes came.Memory adds = omega (arith, adds)

-- What is held behind a read that asked for what is lacking has none too many.
pub grown : (before now : List ℕ) (need size : ℕ) (answer : Came) → flaw before ≡ Some (fault.Short need) → size ≡ length before → now ≡ before ++ added before now
    → AddsUpTo (need - size) (added before now) answer → HasNoneTooMany now
grown before now need size answer short is_size joined adds =
    let within : length (added before now) ≤ need - size = adds-within (need - size) (added before now) answer adds in
    let more : length before < need = asks-more before need short in
    subst HasNoneTooMany (sym joined)
    (none_too_many before (added before now) need short (omega (arith, length-append before (added before now), within, more, is_size)))
