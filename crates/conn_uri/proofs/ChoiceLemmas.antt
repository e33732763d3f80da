-- What was chosen lies within the bounds.
use Rattle.std.proofs.Common.{◌≡◌, ◌≤◌, ◌&&◌, ℕ, Bool, true, false, cond, leb, List, [], ◌∷◌, Option, None, Some, refl, subst, arith, ◌⊎◌, inl, inr}
use Rattle.std.specs.Prelude.{◌==◌, codes, fold, not, unwrap_or}
use Rattle.std.specs.Option.{option_map, option_and_then}
use Rattle.std.proofs.lemmas.Bool.Decides.{eqb_tells, nat_tests}
use Rattle.bson_doc.specs.Documents.{is_text}
use Rattle.read_pref.specs.Modes.{mode_named}
use Rattle.conn_uri.specs.Choices.{took, chosen_of}
use Rattle.conn_uri.specs.Configurations.{defaults, MOST}
use Rattle.conn_uri.specs.Inside.{IsWithin}
use Rattle.conn_uri.specs.Options.{asked, taken, option_named}
use Rattle.conn_uri.specs.Values.{any_value, some_text, truth, is_whole, whole_from, without_limit, limit, tags_in}
use Rattle.conn_uri.specs.declared.chosen.Chosen.{Chosen}
use Rattle.conn_uri.specs.declared.said.Said.{Said}
use Rattle.conn_uri.specs.declared.uri_option.UriOption.{UriOption}
use Rattle.conn_uri.specs.declared.uri_option.UriOption.TheVariants as option

-- a number that is read passed each test
passed : (w a b : Bool) (v n : ℕ) → cond (w && a && b) (Some v) None ≡ Some n → (a ≡ true) × (b ≡ true) × (v ≡ n)
passed true true true v n e = (refl, refl, cc)
passed true true false v n e = absurd (cc)
passed true false b v n e = absurd (cc)
passed false a b v n e = absurd (cc)

no_more : (a b n : ℕ) → leb a b ≡ true → b ≡ n → a ≤ n
no_more a b n t e = grind (arith, nat_tests)

no_less : (a b n : ℕ) → leb a b ≡ true → a ≡ n → n ≤ b
no_less a b n t e = grind (arith, nat_tests)

pub whole_from-within : (least : ℕ) (text : List ℕ) (n : ℕ) → whole_from least text ≡ Some n → (least ≤ n) × (n ≤ MOST)
whole_from-within least text n e =
    let p = passed (is_whole text) _ _ _ n e in
    (no_more least _ n p.0 p.2, no_less _ MOST n p.1 p.2)

without_limit-within : (m : ℕ) → m ≤ MOST → (1 ≤ without_limit m) × (without_limit m ≤ MOST)
without_limit-within m le = elim (eqb_tells m 0) [
  | inl w ↦ rw (w.0) (omega arith, omega arith)
  | inr w ↦ rw (w.0) (let some = w.1 in omega (arith, some), le)
]

limit_by : (o : Option ℕ) (n : ℕ) → ((m : ℕ) → o ≡ Some m → m ≤ MOST) → option_map without_limit o ≡ Some n → (1 ≤ n) × (n ≤ MOST)
limit_by None n h e = absurd (cc)
limit_by (Some m) n h e = let same : without_limit m ≡ n = cc in subst (λ k. (1 ≤ k) × (k ≤ MOST)) same (without_limit-within m (h m refl))

pub limit-within : (text : List ℕ) (n : ℕ) → limit text ≡ Some n → (1 ≤ n) × (n ≤ MOST)
limit-within text n e = limit_by (whole_from 0 text) n (λ m is. (whole_from-within 0 text m is).1) e

-- what a value that reads sets
mapped : {A : Type 0} (r : Option A) (f : A → Chosen) (c : Chosen) → ((x : A) → r ≡ Some x → IsWithin (f x)) → option_map f r ≡ Some c → IsWithin c
mapped None f c h e = absurd (cc)
mapped (Some x) f c h e = let same : f x ≡ c = cc in subst IsWithin same (h x refl)

taken-within : (o : UriOption) (v : List ℕ) (c new : Chosen) → IsWithin c → taken o v c ≡ Some new → IsWithin new
unfolding taken
taken-within option.ReplicaSet v c new w e = mapped (some_text v) _ new (λ x is. w) e
taken-within option.DirectConnection v c new w e = mapped (truth v) _ new (λ x is. w) e
taken-within option.RetryWrites v c new w e = mapped (truth v) _ new (λ x is. w) e
taken-within option.ConnectTimeoutMs v c new w e = mapped (limit v) _ new (λ n is. let b = limit-within v n is in (b.1, w.1, w.2, w.3, w.4, w.5, w.6, w.7, w.8)) e
taken-within option.SocketTimeoutMs v c new w e = mapped (limit v) _ new (λ n is. let b = limit-within v n is in (w.0, b.1, w.2, w.3, w.4, w.5, w.6, w.7, w.8)) e
taken-within option.ServerSelectionTimeoutMs v c new w e = mapped (whole_from 1 v) _ new (λ n is. let b = whole_from-within 1 v n is in (w.0, w.1, b, w.3, w.4, w.5, w.6, w.7, w.8)) e
taken-within option.HeartbeatFrequencyMs v c new w e = mapped (whole_from 500 v) _ new (λ n is. let b = whole_from-within 500 v n is in (w.0, w.1, w.2, b, w.4, w.5, w.6, w.7, w.8)) e
taken-within option.LocalThresholdMs v c new w e = mapped (whole_from 0 v) _ new (λ n is. let b = whole_from-within 0 v n is in (w.0, w.1, w.2, w.3, b.1, w.5, w.6, w.7, w.8)) e
taken-within option.WaitQueueTimeoutMs v c new w e = mapped (whole_from 1 v) _ new (λ n is. let b = whole_from-within 1 v n is in (w.0, w.1, w.2, w.3, w.4, b, w.6, w.7, w.8)) e
taken-within option.MaxIdleTimeMs v c new w e = mapped (whole_from 0 v) _ new (λ n is. let b = whole_from-within 0 v n is in (w.0, w.1, w.2, w.3, w.4, w.5, b.1, w.7, w.8)) e
taken-within option.MaxPoolSize v c new w e = mapped (limit v) _ new (λ n is. let b = limit-within v n is in (w.0, w.1, w.2, w.3, w.4, w.5, w.6, b.0, w.8)) e
taken-within option.MaxConnecting v c new w e = mapped (whole_from 1 v) _ new (λ n is. let b = whole_from-within 1 v n is in (w.0, w.1, w.2, w.3, w.4, w.5, w.6, w.7, b.0)) e
taken-within option.ReadPreference v c new w e = mapped (mode_named v) _ new (λ x is. w) e
taken-within option.ReadPreferenceTags v c new w e = mapped (tags_in v) _ new (λ x is. w) e
taken-within option.Tls v c new w e = mapped (truth v) _ new (λ x is. w) e
taken-within option.Ssl v c new w e = mapped (truth v) _ new (λ x is. w) e
taken-within option.LoadBalanced v c new w e = mapped (truth v) _ new (λ x is. w) e
taken-within option.Compressors v c new w e = mapped (any_value v) (λ _. asked (codes "compressors") true c) new (λ x is. w) e
taken-within option.AuthMechanism v c new w e = mapped (any_value v) (λ _. asked (codes "authmechanism") true c) new (λ x is. w) e
taken-within option.W v c new w e = mapped (any_value v) (λ x. asked (codes "w") (not (is_text (codes "majority") x)) c) new (λ x is. w) e
taken-within option.Journal v c new w e = mapped (truth v) _ new (λ x is. w) e

named-within : (o : Option UriOption) (v : List ℕ) (c new : Chosen) → IsWithin c → option_and_then (λ p. taken p v c) o ≡ Some new → IsWithin new
named-within None v c new w e = absurd (cc)
named-within (Some o) v c new w e = taken-within o v c new w e

or_warned : (r : Option Chosen) (d : Chosen) → IsWithin d → ((new : Chosen) → r ≡ Some new → IsWithin new) → IsWithin (unwrap_or r d)
or_warned None d w h = w
or_warned (Some new) d w h = h new refl

took-within : (c : Chosen) (p : Option Said) → IsWithin c → IsWithin (took c p)
took-within c None w = w
took-within c (Some s) w = or_warned (option_and_then (λ o. taken o s.value c) (option_named s.name)) _ w (λ new is. named-within (option_named s.name) s.value c new w is)

folded-within : (c : Chosen) (ps : List (Option Said)) → IsWithin c → IsWithin (fold took c ps)
folded-within c [] w = w
folded-within c (p ∷ ps) w = folded-within (took c p) ps (took-within c p w)

defaults-within : IsWithin defaults
defaults-within =
    (omega arith, omega arith, (omega arith, omega arith), (omega arith, omega arith), omega arith, (omega arith, omega arith), omega arith, omega arith, omega arith)

-- what all pieces choose
pub chosen-within : (ps : List (Option Said)) → IsWithin (chosen_of ps)
chosen-within ps = folded-within defaults ps defaults-within
