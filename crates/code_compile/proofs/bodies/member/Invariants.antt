use Rattle.std.proofs.Common.{[], ◌∷◌, drop}
use Rattle.std.specs.Option.{option_copied}
use Rattle.lang_typed.specs.Plain.{plain_member}
use Rattle.code_scheme.proofs.Whole.{need}
use Rattle.code_compile.specs.Emitted.{emitted_of}
use Rattle.code_compile.specs.Titles.{Follow, member_title, name_of}
use Rattle.code_compile.proofs.Generating.{Underway}
use Rattle.code_compile.proofs.bodies.member.Given as goal

abbrev pub invariant-loop-next : goal.invariant-loop-next
invariant-loop-next l = record {
  output : Underway (emitted_of l.fn.out) l.fn.bodies (plain_member l.member) l.next (emitted_of l.out) l.bodies;
  titled : Follow l.fn.bodies l.bodies (member_title (name_of (option_copied l.owner)) l.member.name ∷ []);
}

abbrev pub decreases-loop-next : goal.decreases-loop-next
decreases-loop-next l = need (drop l.next (emitted_of l.out).piece.branches)
