-- The sample has every construct: where the first one of each stands.
use Rattle.std.proofs.Common.{◌≡◌, ℕ, true, false, Contains, Some, slice_get, refl}
use Rattle.std.proofs.lemmas.Option.{get_or_from_slice_get, slice_get_within}
use Rattle.lang_base.specs.declared.effect.Access.TheVariants.{Read, Write}
use Rattle.lang_base.specs.declared.op.BinaryOp.TheVariants as op
use Rattle.lang_base.specs.declared.op.UnaryOp.TheVariants.{Negate, Not}
use Rattle.lang_typed.specs.declared.stmt.Forking.TheVariants.{Deterministic, Nondeterministic}
use Rattle.trial_samples.specs.Constructs.{Construct, HasEvery, constructs_of}
use Rattle.trial_samples.specs.Constructs.{superclass, constructor, class_param, method_param, constraint, effect, region_name}
use Rattle.trial_samples.specs.Constructs.{int, boolean, null, local, field, element, array_length, call, create, create_array, unary, binary, both, either}
use Rattle.trial_samples.specs.Constructs.{part_length, part_element, declare, store, store_field, store_element, store_part, perform, block, choice, choice_else}
use Rattle.trial_samples.specs.Constructs.{while_loop, return_nothing, return_value, print_int, print_boolean, print_text, local_regions, atomic, cobegin, foreach}
use Rattle.trial_samples.specs.Constructs.{parts_of_array, parts_of_part}
use Rattle.trial_samples.specs.Sample.{sample}

at : (k : ℕ) (c : Construct) → slice_get (constructs_of sample) k ≡ Some c → Contains (constructs_of sample) c
at k c e = (k, slice_get_within (constructs_of sample) k c e, get_or_from_slice_get (constructs_of sample) k c c e)

pub has_every : HasEvery sample
has_every superclass = at 4 superclass refl
has_every constructor = at 1 constructor refl
has_every (class_param false) = at 0 (class_param false) refl
has_every (class_param true) = at 5 (class_param true) refl
has_every method_param = at 11 method_param refl
has_every constraint = at 12 constraint refl
has_every (effect Read false) = at 13 (effect Read false) refl
has_every (effect Read true) = at 31 (effect Read true) refl
has_every (effect Write false) = at 6 (effect Write false) refl
has_every (effect Write true) = at 40 (effect Write true) refl
has_every (region_name false) = at 194 (region_name false) refl
has_every (region_name true) = at 196 (region_name true) refl
has_every int = at 33 int refl
has_every boolean = at 51 boolean refl
has_every null = at 107 null refl
has_every local = at 8 local refl
has_every field = at 16 field refl
has_every element = at 138 element refl
has_every array_length = at 124 array_length refl
has_every call = at 45 call refl
has_every (create false) = at 102 (create false) refl
has_every (create true) = at 109 (create true) refl
has_every create_array = at 120 create_array refl
has_every (unary Negate) = at 94 (unary Negate) refl
has_every (unary Not) = at 56 (unary Not) refl
has_every (binary op.Add) = at 44 (binary op.Add) refl
has_every (binary op.Subtract) = at 131 (binary op.Subtract) refl
has_every (binary op.Multiply) = at 23 (binary op.Multiply) refl
has_every (binary op.Divide) = at 82 (binary op.Divide) refl
has_every (binary op.Remainder) = at 87 (binary op.Remainder) refl
has_every (binary op.Equal) = at 81 (binary op.Equal) refl
has_every (binary op.NotEqual) = at 86 (binary op.NotEqual) refl
has_every (binary op.Less) = at 75 (binary op.Less) refl
has_every (binary op.AtMost) = at 58 (binary op.AtMost) refl
has_every (binary op.Greater) = at 97 (binary op.Greater) refl
has_every (binary op.AtLeast) = at 67 (binary op.AtLeast) refl
has_every both = at 55 both refl
has_every either = at 73 either refl
has_every part_length = at 162 part_length refl
has_every part_element = at 160 part_element refl
has_every (declare false) = at 32 (declare false) refl
has_every (declare true) = at 130 (declare true) refl
has_every store = at 35 store refl
has_every store_field = at 7 store_field refl
has_every store_element = at 126 store_element refl
has_every store_part = at 152 store_part refl
has_every perform = at 111 perform refl
has_every block = at 49 block refl
has_every choice = at 72 choice refl
has_every choice_else = at 79 choice_else refl
has_every while_loop = at 54 while_loop refl
has_every return_nothing = at 10 return_nothing refl
has_every return_value = at 15 return_value refl
has_every print_int = at 91 print_int refl
has_every print_boolean = at 96 print_boolean refl
has_every print_text = at 78 print_text refl
has_every local_regions = at 144 local_regions refl
has_every atomic = at 34 atomic refl
has_every (cobegin Deterministic) = at 136 (cobegin Deterministic) refl
has_every (cobegin Nondeterministic) = at 169 (cobegin Nondeterministic) refl
has_every (foreach Deterministic) = at 122 (foreach Deterministic) refl
has_every (foreach Nondeterministic) = at 178 (foreach Nondeterministic) refl
has_every parts_of_array = at 148 parts_of_array refl
has_every parts_of_part = at 155 parts_of_part refl
