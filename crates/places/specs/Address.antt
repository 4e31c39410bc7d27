-- What contracts see of an address.
use Rattle.std.specs.Prelude.{ℕ}
use Rattle.places.specs.declared.Address.{Address}

-- Its number.
abbrev pub address_number : Address → ℕ
address_number a = a.0

-- The address of a number.
abbrev pub address_from : ℕ → Address
address_from n = record { 0 = n }
