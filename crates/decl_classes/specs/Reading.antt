-- The scope of the class whose signatures are read.
use Rattle.std.specs.Prelude.{List}
use Rattle.lang_base.specs.declared.effect.Constraint.{Constraint}
use Rattle.decl_resolve.specs.Scopes.{PlainScope}
use Rattle.decl_classes.specs.declared.signatures.Around.{Around}
use Rattle.decl_classes.specs.Around.{scope_under, class_scope}

-- where its own constraints are in force
abbrev pub scope_around : Around → PlainScope
scope_around around = class_scope around.headers.now around.classes_given.now around.class

-- where these are
abbrev pub scope_with : Around → List Constraint → PlainScope
scope_with around given = scope_under around.headers.now around.classes_given.now around.class given
