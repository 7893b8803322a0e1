-- To be believed: an opening as one number, and back.
use Rattle.std.specs.Prelude.{ℕ, ◌+◌, ◌*◌, ◌/◌, ◌%◌}
use Rattle.reg_keys.specs.declared.opening.Opening.{Opening}

-- the number, and after it the place of the descriptor among those of its stripe
abbrev pub token_of : Opening → ℕ
token_of o = o.number * 128 + o.fd / 32

-- the number, and the descriptor at that place of the stripe that drew the number
abbrev pub opening_of : ℕ → Opening
opening_of token = record { number = token / 128; fd = 32 * (token % 128) + token / 128 % 32 }
