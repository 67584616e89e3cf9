-- Which method each one overrides.
use Rattle.std.specs.Prelude.{ℕ, cond, Option, None, option_and_then}
use Rattle.decl_headers.specs.Headers.{nearest, upwards, parent_of}
use Rattle.decl_table.specs.declared.rows.MethodRow.{MethodRow}
use Rattle.decl_table.specs.declared.table.Table.{Table}
use Rattle.decl_table.specs.Table.{headers_of, own_method}

-- the number of the method that a name means in a class
abbrev pub method_named : Table → ℕ → ℕ → Option ℕ
method_named table class name = nearest (λ at. own_method table at name) (upwards (headers_of table) class)

-- a method overrides the one that its name means in the superclass of its class; a constructor overrides nothing
abbrev pub overridden_in : Table → MethodRow → Option ℕ
overridden_in table row =
    cond row.is_constructor None (option_and_then (λ above. method_named table above row.name) (parent_of (headers_of table) row.owner))
