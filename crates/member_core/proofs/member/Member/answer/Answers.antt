use Rattle.std.proofs.Common.{◌≡◌, ℕ, zero, suc, Bool, true, false, cond, ap, arith, refl, sym, ◌∙◌}
use Rattle.std.proofs.lemmas.Bool.{ne_eqb}
use Rattle.net_link.specs.declared.event.Effect.TheVariants.{Added, Known, Nothing}
use Rattle.member_core.specs.Keys.{is_write}
use Rattle.member_core.specs.Logs.{times}
use Rattle.member_core.specs.Members.{entries, takes_writes, write_effect}
use Rattle.member_core.proofs.member.Member.answer.Goals as goal

-- a write is added where no entry has its key
added-lacks : (writes takes : Bool) (n : ℕ) → cond writes (write_effect takes n) Nothing ≡ Added → n ≡ 0
added-lacks true true zero e = refl
added-lacks true true (suc n) e = absurd (let known : Known ≡ Added = ap (λ b. cond b Added Known) (sym (ne_eqb (suc n) 0 (λ none. omega arith))) ∙ e in let clash : ⊥ = cc in clash)
added-lacks true false n e = absurd (let clash : ⊥ = cc in clash)
added-lacks false takes n e = absurd (let clash : ⊥ = cc in clash)

pub note-requires : goal.note-requires
note-requires c = record {
  lacks = λ e.
      added-lacks (is_write c.args.message.now.body) (takes_writes c.args.self.now) (times c.key_of-key.result (entries c.args.self.now.log)) (sym c.effect_of-effect.ensures ∙ e);
}
