-- What each pin is for (document 01, "The language we take": positions). Assumes nothing.
use Rattle.std.specs.Prelude.{ℕ, ltb}
use Rattle.basics.specs.Choice.{pick}

-- 1 for a pin that an IN takes: 2 to 11 and 13; 2 for one that an OUT takes: 14 to 23; 3 for the clock, pin 1; 0 for any other number
unfoldable pub role_of : ℕ → ℕ
role_of p =
    pick (ltb p 1) 0
    (pick (ltb p 2) 3
    (pick (ltb p 12) 1
    (pick (ltb p 13) 0
    (pick (ltb p 14) 1
    (pick (ltb p 24) 2 0)))))
