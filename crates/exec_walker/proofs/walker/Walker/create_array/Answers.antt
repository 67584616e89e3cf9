use mir.Val.{SFits}
use Rattle.std.proofs.Common.{◌≡◌, ◌∙◌, ◌∷◌, sym, ap, refl, subst, map, drop, false, rules, w32, to_z, of_z}
use Rattle.std.proofs.Math.IntN.{nat_abs}
use Rattle.std.proofs.lemmas.Int.{to_z-of_z}
use Rattle.std.proofs.lemmas.Result.{err_from_is_err_and}
use Rattle.lang_base.specs.declared.value.Value.{Value as Constant}
use Rattle.lang_base.specs.FirstValues.{constant_of}
use Rattle.lang_base.specs.Types.{plain_type}
use Rattle.lang_meaning.specs.Actions.{New}
use Rattle.lang_meaning.specs.Counts.{name_made, number, slot_value}
use Rattle.lang_meaning.specs.Elision.{LocalRegion, after, answer}
use Rattle.lang_meaning.specs.Expressions.{first_of}
use Rattle.lang_meaning.specs.Regions.{is_long}
use Rattle.lang_meaning.specs.Values.{An_array}
use Rattle.exec_frames.specs.Names.{plain_region, plain_value}
use Rattle.exec_walker.specs.Stores.{Holds}
use Rattle.exec_walker.specs.States.{ComesTo, IsOverAt, plain_level, plain_waiting}
use Rattle.exec_frames.proofs.Counting.{counts_len}
use Rattle.exec_walker.proofs.Arrays.{at_array, array_made}
use Rattle.exec_walker.proofs.Halting.{refused}
use Rattle.exec_walker.proofs.Programs.{first_is}
use Rattle.exec_walker.proofs.walker.Walker.create_array.Goals as goal

pub returns-in_err-array : goal.returns-in_err-array
returns-in_err-array c = λ L w h.
    let g = plain_level c.args.self.now.level in
    let ws = map plain_waiting c.args.self.now.waiting in
    let i = number (slot_value g.operands 0) in
    let k = nat_abs (to_z w32 (of_z w32 c.number-len.result)) in
    let fits : SFits w32 c.number-len.result = search rules in
    let len = sym (c.number-len.ensures ∙ ap number c.operand.ensures) ∙ counts_len c.number-len.result _ (to_z-of_z w32 c.number-len.result fits) c.if-len-lt0.false in
    let r = plain_region c.in_ok-region.region in
    let v = plain_value c.value.result in
    let short : is_long r ≡ false = sym c.is_long.ensures ∙ c.if-is_long.false in
    let out = err_from_is_err_and c.from_residual-in_err-array.result c.from_residual-in_err-array.ensures.1 in
    rw (out.1, out.2) (refused Constant L c.in_err-array.field-0.0 _ _ (Holds L c.make_array.new.self) (after (New (An_array r k v) false) w)
    (c.in_err-array.ensures.store L w h) (λ over.
    subst (λ s. IsOverAt L s)
    (array_made g (λ v. v ∷ drop 1 g.operands) ws c.args.place g.frame w (plain_type c.args.ty.now) (plain_type c.in-Array.elem) c.in-Array.rpl c.in-Array.named i k r v
    (name_made {M = LocalRegion} (answer w.heap (New (An_array r k v) false)))
    (at_array c.args.ty.now c.in-Array.elem c.in-Array.rpl c.in-Array.named c.in-Array.is) len c.in_ok-region.ensures
    (ap plain_value (c.value.ensures ∙ ap constant_of c.of-first.ensures) ∙ first_is (plain_type c.get.result.now) ∙ ap (λ t. first_of (plain_type t)) c.get.ensures) short refl)
    over))

pub returns : goal.returns
returns c = λ L w h.
    let g = plain_level c.args.self.now.level in
    let ws = map plain_waiting c.args.self.now.waiting in
    let i = number (slot_value g.operands 0) in
    let k = nat_abs (to_z w32 (of_z w32 c.number-len.result)) in
    let fits : SFits w32 c.number-len.result = search rules in
    let len = sym (c.number-len.ensures ∙ ap number c.operand.ensures) ∙ counts_len c.number-len.result _ (to_z-of_z w32 c.number-len.result fits) c.if-len-lt0.false in
    let r = plain_region c.in_ok-region.region in
    let v = plain_value c.value.result in
    let short : is_long r ≡ false = sym c.is_long.ensures ∙ c.if-is_long.false in
    subst (λ s. ComesTo L c.give-2.result c.give-2.new.self s)
    (array_made g (λ v. v ∷ drop 1 g.operands) ws c.args.place g.frame w (plain_type c.args.ty.now) (plain_type c.in-Array.elem) c.in-Array.rpl c.in-Array.named i k r v
    (plain_value c.in_ok-array.array)
    (at_array c.args.ty.now c.in-Array.elem c.in-Array.rpl c.in-Array.named c.in-Array.is) len c.in_ok-region.ensures
    (ap plain_value (c.value.ensures ∙ ap constant_of c.of-first.ensures) ∙ first_is (plain_type c.get.result.now) ∙ ap (λ t. first_of (plain_type t)) c.get.ensures) short (c.in_ok-array.ensures.name L w h))
    (c.give-2.ensures L (after (New (An_array r k v) false) w) (c.in_ok-array.ensures.store L w h))
