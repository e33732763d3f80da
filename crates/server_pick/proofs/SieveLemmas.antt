-- What the sieves let through, in the words of the definitions.
use denote.Ref.{Bor}
use Rattle.std.proofs.Common.{◌≡◌, ℕ, ◌+◌, ◌<◌, ◌≤◌, Bool, true, false, cond, not, ◌&&◌, if◌then◌else◌, List, [], ◌∷◌, ◌++◌, Option, None, Some, is_some, refl, sym, ap, ◌∙◌, append-nil, filter, map, length, slice_get, get_or, take, drop, ◌==◌, true≢false}
use Rattle.std.proofs.lemmas.List.{drop_all, drop_more, map-append}
use Rattle.std.proofs.lemmas.List.Elements.{filter-append, filter_agree}
use Rattle.std.specs.List.{list_any}
use Rattle.host_name.specs.Addresses.{Address, is_same_address}
use Rattle.hello_reply.specs.declared.server_description.ServerDescription.{ServerDescription}
use Rattle.read_pref.specs.declared.tag.Tag.{Tag}
use Rattle.read_pref.specs.Preferences.{Preference}
use Rattle.read_pref.specs.declared.mode.Mode.{Mode}
use Rattle.read_pref.specs.declared.mode.Mode.TheVariants as mode
use Rattle.topo_rules.specs.declared.kind.TopoKind.{TopoKind}
use Rattle.topo_rules.specs.declared.kind.TopoKind.TheVariants as topo
use Rattle.server_pick.specs.Candidates.{candidate_of, or_else, of_mode, of_secondary, of_nearest, of_primary_preferred, of_secondary_preferred, of_set, of_sharded, suitable}
use Rattle.server_pick.specs.Gathered.{with_passing}
use Rattle.server_pick.specs.Sieves.{lets, passes, plain}
use Rattle.server_pick.specs.Tags.{fits, deciding, that_fit, tagged}
use Rattle.server_pick.specs.declared.candidate.Candidate.{Candidate}
use Rattle.server_pick.specs.declared.criteria.Criteria.{Criteria}
use Rattle.server_pick.specs.declared.criteria.Need.{Need}
use Rattle.server_pick.specs.declared.criteria.Need.TheVariants.{Write, Read}
use Rattle.server_pick.specs.declared.sieve.Kinds.{Kinds}
use Rattle.server_pick.specs.declared.sieve.Kinds.TheVariants as kinds
use Rattle.server_pick.specs.declared.sieve.Sieve.{Sieve}
use Rattle.server_pick.proofs.Lists.{filter_both, any_both, filter_none, or_else_some, or_else_none, take_at_place, take_past}

one_test : (a : Bool) → (a && true && true) ≡ a
one_test true = refl
one_test false = refl

two_tests : (a b : Bool) → (a && b && true) ≡ (a && b)
two_tests true true = refl
two_tests true false = refl
two_tests false b = refl

outer_tests : (a b : Bool) → (a && true && b) ≡ (a && b)
outer_tests true b = refl
outer_tests false b = refl

pub plain_passes : (ks : Kinds) (ds : List ServerDescription) → filter (passes (plain ks)) ds ≡ filter (lets ks) ds
plain_passes ks ds = filter_agree (passes (plain ks)) (lets ks) (λ d. one_test (lets ks d)) ds

pub nothing_passes : (ds : List ServerDescription) → filter (passes (plain kinds.Nothing)) ds ≡ []
nothing_passes ds = filter_none (passes (plain kinds.Nothing)) (λ d. refl) ds

-- the sieve of one host to avoid
abbrev pub other_sieve : Kinds → Bor Address → Sieve
other_sieve ks host = record { kinds = ks; tags = None; avoid = Some host }

pub others_pass : (ks : Kinds) (host : Bor Address) (ds : List ServerDescription) → filter (passes (other_sieve ks host)) ds ≡ filter (λ d. not (is_same_address d.host host.now)) (filter (lets ks) ds)
others_pass ks host ds = filter_both (lets ks) (λ d. not (is_same_address d.host host.now)) (passes (other_sieve ks host)) (λ d. outer_tests (lets ks d) (not (is_same_address d.host host.now))) ds

pub tagged_some : (sets : List (List Tag)) (ds : List ServerDescription) (tags : List Tag) → deciding sets ds ≡ Some tags → tagged sets ds ≡ filter (fits tags) ds
tagged_some [] ds tags e = absurd (true≢false (sym (ap is_some e)))
tagged_some (s ∷ sets) ds tags e = ap (λ o. that_fit o ds) e

pub tagged_none : (sets : List (List Tag)) (ds : List ServerDescription) → (length sets == 0) ≡ false → deciding sets ds ≡ None → tagged sets ds ≡ []
tagged_none [] ds some e = absurd (true≢false some)
tagged_none (s ∷ sets) ds some e = ap (λ o. that_fit o ds) e

-- the set at the head decides where it fits some server
pub deciding_head : (tags : List Tag) (sets : List (List Tag)) (ds : List ServerDescription) → list_any (fits tags) ds ≡ true → deciding (tags ∷ sets) ds ≡ Some tags
deciding_head tags sets ds e = ap (λ b. cond b (Some tags) (deciding sets ds)) e

pub deciding_tail : (tags : List Tag) (sets : List (List Tag)) (ds : List ServerDescription) → list_any (fits tags) ds ≡ false → deciding (tags ∷ sets) ds ≡ deciding sets ds
deciding_tail tags sets ds e = ap (λ b. cond b (Some tags) (deciding sets ds)) e

drop_item : {A : Type 0} (xs : List A) (i : ℕ) (x : A) → i < length xs → x ≡ get_or xs i x → drop i xs ≡ x ∷ drop (i + 1) xs
drop_item xs i x h e = drop_more xs i x h ∙ ap (λ z. z ∷ drop (i + 1) xs) (sym e)

-- ---- The tag sets, one after another

module _ (ks : Kinds) (tags : List Tag) (sets : List (List Tag)) (i : ℕ) (ds : List ServerDescription) (within : i < length sets) (item : tags ≡ get_or sets i tags) where
  -- p is what passes the sieve of the kinds and the tag set
  module _ (p : ServerDescription → Bool) (is : (d : ServerDescription) → p d ≡ (lets ks d && fits tags d && true)) (so_far : deciding (drop i sets) (filter (lets ks) ds) ≡ deciding sets (filter (lets ks) ds)) where
    tests : (d : ServerDescription) → p d ≡ (lets ks d && fits tags d)
    tests d = is d ∙ two_tests (lets ks d) (fits tags d)

    pub tagged_found : list_any p ds ≡ true → filter p ds ≡ tagged sets (filter (lets ks) ds)
    tagged_found some =
        let fit : list_any (fits tags) (filter (lets ks) ds) ≡ true = sym (any_both (lets ks) (fits tags) p tests ds) ∙ some in
        let decides : deciding sets (filter (lets ks) ds) ≡ Some tags =
        sym so_far ∙ ap (λ xs. deciding xs (filter (lets ks) ds)) (drop_item sets i tags within item) ∙ deciding_head tags (drop (i + 1) sets) (filter (lets ks) ds) fit in
        filter_both (lets ks) (fits tags) p tests ds ∙ sym (tagged_some sets (filter (lets ks) ds) tags decides)

    pub tagged_passed : list_any p ds ≡ false → deciding (drop (i + 1) sets) (filter (lets ks) ds) ≡ deciding sets (filter (lets ks) ds)
    tagged_passed none =
        let unfit : list_any (fits tags) (filter (lets ks) ds) ≡ false = sym (any_both (lets ks) (fits tags) p tests ds) ∙ none in
        sym (deciding_tail tags (drop (i + 1) sets) (filter (lets ks) ds) unfit)
        ∙ sym (ap (λ xs. deciding xs (filter (lets ks) ds)) (drop_item sets i tags within item)) ∙ so_far

pub tagged_ends : (ks : Kinds) (sets : List (List Tag)) (i : ℕ) (ds : List ServerDescription) (s : Sieve) → (length sets == 0) ≡ false → length sets ≤ i
    → deciding (drop i sets) (filter (lets ks) ds) ≡ deciding sets (filter (lets ks) ds) → s ≡ plain kinds.Nothing → filter (passes s) ds ≡ tagged sets (filter (lets ks) ds)
tagged_ends ks sets i ds s some past so_far is =
    let none : deciding sets (filter (lets ks) ds) ≡ None = sym so_far ∙ ap (λ xs. deciding xs (filter (lets ks) ds)) (drop_all i sets past) in
    ap (λ z. filter (passes z) ds) is ∙ nothing_passes ds ∙ sym (tagged_none sets (filter (lets ks) ds) some none)

-- ---- What each function makes

pub or_else_taken : (s other : Sieve) (ds : List ServerDescription) (some : Bool) → some ≡ list_any (passes s) ds → some ≡ true → filter (passes s) ds ≡ or_else (filter (passes s) ds) (filter (passes other) ds)
or_else_taken s other ds some e t = sym (or_else_some (passes s) ds (filter (passes other) ds) (sym e ∙ t))

pub or_else_other : (s other : Sieve) (ds : List ServerDescription) (some : Bool) → some ≡ list_any (passes s) ds → some ≡ false → filter (passes other) ds ≡ or_else (filter (passes s) ds) (filter (passes other) ds)
or_else_other s other ds some e t = sym (or_else_none (passes s) ds (filter (passes other) ds) (sym e ∙ t))

plain_is : (s : Sieve) (ks : Kinds) (ds : List ServerDescription) → s ≡ plain ks → filter (passes s) ds ≡ filter (lets ks) ds
plain_is s ks ds e = ap (λ z. filter (passes z) ds) e ∙ plain_passes ks ds

module _ (m : Mode) (sets given : List (List Tag)) (ds : List ServerDescription) where
  pub mode_primary : (s : Sieve) → mode.Primary ≡ m → s ≡ plain kinds.Primary → filter (passes s) ds ≡ of_mode m sets ds
  mode_primary s e is = plain_is s kinds.Primary ds is ∙ ap (λ n. of_mode n sets ds) e

  pub mode_secondary : (s : Sieve) → mode.Secondary ≡ m → given ≡ sets → filter (passes s) ds ≡ tagged given (filter (lets kinds.Secondary) ds) → filter (passes s) ds ≡ of_mode m sets ds
  mode_secondary s e g is = is ∙ ap (λ xs. of_secondary xs ds) g ∙ ap (λ n. of_mode n sets ds) e

  pub mode_nearest : (s : Sieve) → mode.Nearest ≡ m → given ≡ sets → filter (passes s) ds ≡ tagged given (filter (lets kinds.Member) ds) → filter (passes s) ds ≡ of_mode m sets ds
  mode_nearest s e g is = is ∙ ap (λ xs. of_nearest xs ds) g ∙ ap (λ n. of_mode n sets ds) e

  pub mode_primary_preferred : (s p t : Sieve) → mode.PrimaryPreferred ≡ m → given ≡ sets → p ≡ plain kinds.Primary → filter (passes t) ds ≡ tagged given (filter (lets kinds.Secondary) ds)
      → filter (passes s) ds ≡ or_else (filter (passes p) ds) (filter (passes t) ds) → filter (passes s) ds ≡ of_mode m sets ds
  mode_primary_preferred s p t e g first second is =
      is ∙ (λ i. or_else (plain_is p kinds.Primary ds first i) (second i)) ∙ ap (λ xs. of_primary_preferred xs ds) g ∙ ap (λ n. of_mode n sets ds) e

  pub mode_secondary_preferred : (s p t : Sieve) → mode.SecondaryPreferred ≡ m → given ≡ sets → p ≡ plain kinds.Primary → filter (passes t) ds ≡ tagged given (filter (lets kinds.Secondary) ds)
      → filter (passes s) ds ≡ or_else (filter (passes t) ds) (filter (passes p) ds) → filter (passes s) ds ≡ of_mode m sets ds
  mode_secondary_preferred s p t e g first second is =
      is ∙ (λ i. or_else (second i) (plain_is p kinds.Primary ds first i)) ∙ ap (λ xs. of_secondary_preferred xs ds) g ∙ ap (λ n. of_mode n sets ds) e

pub set_write : (need : Need) (s : Sieve) (ds : List ServerDescription) → need ≡ Write → s ≡ plain kinds.Primary → filter (passes s) ds ≡ of_set need ds
set_write need s ds e is = plain_is s kinds.Primary ds is ∙ ap (λ n. of_set n ds) (sym e)

pub set_read : (need : Need) (p : Bor Preference) (s : Sieve) (ds : List ServerDescription) → need ≡ Read p → filter (passes s) ds ≡ of_mode p.now.mode p.now.tag_sets ds → filter (passes s) ds ≡ of_set need ds
set_read need p s ds e is = is ∙ ap (λ n. of_set n ds) (sym e)

pub sharded_all : (avoid : Option (Bor Address)) (s : Sieve) (ds : List ServerDescription) → avoid ≡ None → s ≡ plain kinds.Mongos → filter (passes s) ds ≡ of_sharded avoid ds
sharded_all avoid s ds e is = plain_is s kinds.Mongos ds is ∙ ap (λ a. of_sharded a ds) (sym e)

pub sharded_other : (avoid : Option (Bor Address)) (host : Bor Address) (s all : Sieve) (ds : List ServerDescription) → avoid ≡ Some host → all ≡ plain kinds.Mongos
    → filter (passes s) ds ≡ or_else (filter (passes (other_sieve kinds.Mongos host)) ds) (filter (passes all) ds) → filter (passes s) ds ≡ of_sharded avoid ds
sharded_other avoid host s all ds e a is =
    is ∙ (λ i. or_else (others_pass kinds.Mongos host ds i) (plain_is all kinds.Mongos ds a i)) ∙ ap (λ o. of_sharded o ds) (sym e)

module _ (kind : TopoKind) (criteria : Criteria) (s : Sieve) (ds : List ServerDescription) where
  pub suits_unknown : topo.Unknown ≡ kind → s ≡ plain kinds.Nothing → filter (passes s) ds ≡ suitable kind criteria ds
  suits_unknown e is = ap (λ z. filter (passes z) ds) is ∙ nothing_passes ds ∙ ap (λ k. suitable k criteria ds) e

  pub suits_single : topo.Single ≡ kind → s ≡ plain kinds.Known → filter (passes s) ds ≡ suitable kind criteria ds
  suits_single e is = plain_is s kinds.Known ds is ∙ ap (λ k. suitable k criteria ds) e

  pub suits_sharded : topo.Sharded ≡ kind → filter (passes s) ds ≡ of_sharded criteria.avoid ds → filter (passes s) ds ≡ suitable kind criteria ds
  suits_sharded e is = is ∙ ap (λ k. suitable k criteria ds) e

  pub suits_no_primary : topo.NoPrimary ≡ kind → filter (passes s) ds ≡ of_set criteria.need ds → filter (passes s) ds ≡ suitable kind criteria ds
  suits_no_primary e is = is ∙ ap (λ k. suitable k criteria ds) e

  pub suits_with_primary : topo.WithPrimary ≡ kind → filter (passes s) ds ≡ of_set criteria.need ds → filter (passes s) ds ≡ suitable kind criteria ds
  suits_with_primary e is = is ∙ ap (λ k. suitable k criteria ds) e

-- one more server that is looked at
pub gathered_more : (load : Address → ℕ) (p : ServerDescription → Bool) (ds : List ServerDescription) (i : ℕ) (d : ServerDescription) → slice_get ds i ≡ Some d
    → with_passing load p (map (candidate_of load) (filter p (take i ds))) d ≡ map (candidate_of load) (filter p (take (i + 1) ds))
gathered_more load p ds i d e =
    kept (p d)
    ∙ sym (ap (λ xs. map f (filter p xs)) (take_at_place ds i d e) ∙ ap (map f) (filter-append p (take i ds) (d ∷ [])) ∙ map-append f (filter p (take i ds)) (filter p (d ∷ [])))
  where
    f : ServerDescription → Candidate
    f = candidate_of load

    kept : (b : Bool) → (if b then map f (filter p (take i ds)) ++ f d ∷ [] else map f (filter p (take i ds))) ≡ map f (filter p (take i ds)) ++ map f (cond b (d ∷ []) [])
    kept true = refl
    kept false = sym (append-nil (map f (filter p (take i ds))))

pub gathered_past : (load : Address → ℕ) (p : ServerDescription → Bool) (ds : List ServerDescription) (i : ℕ) (cs : List Candidate) → slice_get ds i ≡ None
    → cs ≡ map (candidate_of load) (filter p (take i ds)) → cs ≡ map (candidate_of load) (filter p (take (i + 1) ds))
gathered_past load p ds i cs none e = e ∙ ap (λ xs. map (candidate_of load) (filter p xs)) (sym (take_past ds i none))

pub gathered_next : (load : Address → ℕ) (p : ServerDescription → Bool) (ds : List ServerDescription) (i : ℕ) (d : ServerDescription) (cs after : List Candidate) → Some d ≡ slice_get ds i
    → cs ≡ map (candidate_of load) (filter p (take i ds)) → after ≡ with_passing load p cs d → after ≡ map (candidate_of load) (filter p (take (i + 1) ds))
gathered_next load p ds i d cs after at e is = is ∙ ap (λ xs. with_passing load p xs d) e ∙ gathered_more load p ds i d (sym at)
