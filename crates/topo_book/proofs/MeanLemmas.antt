-- The mean that is kept of a host is the mean of its samples since it last stood as Unknown or not at all.
use Rattle.std.proofs.Common.{◌≡◌, ℕ, Bool, true, false, cond, if◌then◌else◌, List, [], ◌∷◌, ◌++◌, fold, Option, None, Some, inl, inr, refl, sym, ap, subst, ◌∙◌, append-nil, true≢false}
use Rattle.std.specs.FinMap as map
use Rattle.std.specs.Option.{option_and_then, option_map_or, unwrap_or}
use Rattle.host_name.specs.Addresses.{Address, is_same_address, is_same_address-true, is_same_address-same}
use Rattle.rtt_mean.specs.Mean.{next_mean, mean}
use Rattle.hello_reply.specs.declared.server_description.ServerDescription.{ServerDescription}
use Rattle.hello_reply.specs.Descriptions.{unknown as default_unknown_of}
use Rattle.topo_rules.specs.declared.event.TopoEvent.{TopoEvent}
use Rattle.topo_rules.specs.declared.event.TopoEvent.TheVariants.{Reply, Broken, Refused}
use Rattle.topo_rules.specs.declared.topology.Topology.{Topology}
use Rattle.topo_rules.specs.Kinds.{is_known}
use Rattle.topo_rules.specs.Laws.{StandsBehind}
use Rattle.topo_rules.specs.Maps.{kept_mean, tabulate}
use Rattle.topo_rules.specs.Rules.{opened, event_host, fresh, after}
use Rattle.topo_rules.proofs.LawLemmas.{at_tabulate}
use Rattle.topo_rules.proofs.OriginLemmas.{stands_behind}
use Rattle.topo_book.specs.Books.{folded}
use Rattle.topo_book.specs.Means.{sample_of, stands_known, with_sample, samples_since}

mean-push : (samples : List ℕ) (sample : ℕ) → mean (samples ++ sample ∷ []) ≡ Some (next_mean (mean samples) sample)
mean-push samples sample = by None samples
  where
    by : (o : Option ℕ) (xs : List ℕ) → fold (λ old sample. Some (next_mean old sample)) o (xs ++ sample ∷ []) ≡ Some (next_mean (fold (λ old sample. Some (next_mean old sample)) o xs) sample)
    by o [] = refl
    by o (x ∷ xs) = by (Some (next_mean o x)) xs

-- of an Unknown no mean is kept, and the mean is that of the samples
record Means (t : Topology) (x : Address) (samples : List ℕ) : Type 0 where
  none : (d : ServerDescription) → map.get t.servers x ≡ Some d → is_known d ≡ false → d.mean ≡ None
  same : kept_mean t.servers x ≡ mean samples

known-known : (d : ServerDescription) (m : Option ℕ) (b : Bool) → is_known d ≡ b → b ≡ false → (if b then m else None) ≡ None
known-known d m true e h = absurd (true≢false h)
known-known d m false e h = refl

-- what an event says of its host has no mean where it is an Unknown
fresh-none : (t : Topology) (event : TopoEvent) → is_known (fresh t.servers event) ≡ false → (fresh t.servers event).mean ≡ None
fresh-none t (Reply description sample) h = known-known description (Some (next_mean (kept_mean t.servers description.host) sample)) (is_known description) refl h
fresh-none t (Broken host generation) h = refl
fresh-none t (Refused host version generation shutdown) h = refl

-- what a known one says: one more sample
fresh-mean : (t : Topology) (event : TopoEvent) (x : Address) (samples : List ℕ) → x ≡ event_host event → kept_mean t.servers x ≡ mean samples → is_known (fresh t.servers event) ≡ true → (fresh t.servers event).mean ≡ mean (samples ++ sample_of x event)
fresh-mean t (Reply description sample) x samples host same known =
    ap (λ b. if b then Some (next_mean (kept_mean t.servers description.host) sample) else None) known
    ∙ ap (λ m. Some (next_mean m sample)) (ap (kept_mean t.servers) (sym host) ∙ same)
    ∙ sym (mean-push samples sample)
    ∙ ap (λ b. mean (samples ++ (if b then sample ∷ [] else []))) (sym (is_same_address-same x description.host host))
fresh-mean t (Broken host generation) x samples is same known = absurd (true≢false (sym known))
fresh-mean t (Refused host version generation shutdown) x samples is same known = absurd (true≢false (sym known))

no-sample : (event : TopoEvent) (x : Address) → (x ≡ event_host event → ⊥) → sample_of x event ≡ []
no-sample (Reply description sample) x apart = by (is_same_address x description.host) refl
  where
    by : (b : Bool) → is_same_address x description.host ≡ b → (if b then sample ∷ [] else []) ≡ []
    by true e = absurd (apart (is_same_address-true x description.host e))
    by false e = refl
no-sample (Broken host generation) x apart = refl
no-sample (Refused host version generation shutdown) x apart = refl

module _ (t : Topology) (event : TopoEvent) (x : Address) (samples : List ℕ) (means : Means t x samples) where
  none-behind : (d : ServerDescription) → map.get (after t event).servers x ≡ Some d → is_known d ≡ false → d.mean ≡ None
  none-behind d at h = by (stands_behind t event x d at)
    where
      by : StandsBehind t event x d → d.mean ≡ None
      by (inl is) = ap (λ (z : ServerDescription). z.mean) is
      by (inr (inl is)) = ap (λ (z : ServerDescription). z.mean) is.1 ∙ fresh-none t event (ap is_known (sym is.1) ∙ h)
      by (inr (inr was)) = means.none d was.1 h

  mean-behind : (d : ServerDescription) → map.get (after t event).servers x ≡ Some d → is_known d ≡ true → d.mean ≡ mean (samples ++ sample_of x event)
  mean-behind d at h = by (stands_behind t event x d at)
    where
      by : StandsBehind t event x d → d.mean ≡ mean (samples ++ sample_of x event)
      by (inl is) = absurd (true≢false (sym h ∙ ap is_known is))
      by (inr (inl is)) = ap (λ (z : ServerDescription). z.mean) is.1 ∙ fresh-mean t event x samples is.0 means.same (ap is_known (sym is.1) ∙ h)
      by (inr (inr was)) =
          ap (option_and_then (λ (z : ServerDescription). z.mean)) (sym was.1) ∙ means.same
          ∙ ap mean (sym (append-nil samples) ∙ ap (λ ys. samples ++ ys) (sym (no-sample event x was.0)))

  means-behind : Means (after t event) x (with_sample x (t, samples) event).1
  means-behind = record { none = none-behind; same = by (map.get (after t event).servers x) refl }
    where
      at : (d : ServerDescription) → map.get (after t event).servers x ≡ Some d → (b : Bool) → is_known d ≡ b → d.mean ≡ mean (if b then samples ++ sample_of x event else [])
      at d is true known = mean-behind d is known
      at d is false known = none-behind d is known

      by : (o : Option ServerDescription) → map.get (after t event).servers x ≡ o → option_and_then (λ d. d.mean) o ≡ mean (if option_map_or is_known o false then samples ++ sample_of x event else [])
      by None is = refl
      by (Some d) is = at d is (is_known d) refl

means-fold : (t : Topology) (x : Address) (samples : List ℕ) (events : List TopoEvent) → Means t x samples → kept_mean (folded t events).servers x ≡ mean (fold (with_sample x) (t, samples) events).1
means-fold t x samples [] means = means.same
means-fold t x samples (event ∷ events) means = means-fold (after t event) x (with_sample x (t, samples) event).1 events (means-behind t event x samples means)

pub mean_of_samples : (hosts : List Address) (name : Option (List ℕ)) (direct : Bool) (events : List TopoEvent) (x : Address)
    → kept_mean (folded (opened hosts name direct) events).servers x ≡ mean (samples_since (opened hosts name direct) events x)
mean_of_samples hosts name direct events x = means-fold (opened hosts name direct) x [] events (record {
  none = λ d at _. ap (λ (z : ServerDescription). z.mean) (sym (at_tabulate default_unknown_of hosts x d at));
  same = by (map.get (opened hosts name direct).servers x) refl;
})
  where
    by : (o : Option ServerDescription) → map.get (tabulate hosts default_unknown_of) x ≡ o → option_and_then (λ d. d.mean) o ≡ None
    by None is = refl
    by (Some d) is = ap (λ (z : ServerDescription). z.mean) (sym (at_tabulate default_unknown_of hosts x d is))
