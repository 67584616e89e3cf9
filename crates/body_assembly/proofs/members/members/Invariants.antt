use Rattle.std.proofs.Common.{◌≡◌, ◌++◌, map, length}
use Rattle.std.specs.Vec.Iter.{into_iter_items, into_iter_len}
use Rattle.lang_typed.specs.Names.{named_member}
use Rattle.lang_typed.specs.Plain.{plain_member}
use Rattle.body_assembly.specs.Assembled.{plain_body, members_of}
use Rattle.body_assembly.specs.Named.{members_named}
use Rattle.body_assembly.proofs.members.members.Given as goal

abbrev pub invariant-loop-body : goal.invariant-loop-body
invariant-loop-body l = record {
  made : map plain_member l.made ++ members_of l.left (map plain_body (into_iter_items l.body-iterator)) ≡ members_of l.rows (map plain_body (into_iter_items l.initial.body-iterator));
  named : map named_member l.made ++ members_named l.names l.left (map plain_body (into_iter_items l.body-iterator))
      ≡ members_named l.names l.rows (map plain_body (into_iter_items l.initial.body-iterator));
  counted : into_iter_len l.body-iterator ≡ length (into_iter_items l.body-iterator);
}
