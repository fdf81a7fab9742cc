-- The ports of a core. A port is known by its place among 1A to 1P, 4A to 4F, 8A to 8D, 16A, 16B, 32A, from 0.
use Rattle.std.specs.Prelude.{ℕ, ◌+◌, ◌-◌, if◌then◌else◌, List, [], ◌∷◌, ◌++◌, codes, nat_lt}

-- how many ports there are
abbrev pub port_count : ℕ
port_count = 29

-- the port's width in bits
abbrev pub width_of : ℕ → ℕ
width_of port =
    if nat_lt port 16 then 1 else if nat_lt port 22 then 4 else if nat_lt port 26 then 8 else if nat_lt port 28 then 16 else 32

-- the port's name: its width and a letter
abbrev pub port_text : ℕ → List ℕ
port_text port =
    if nat_lt port 16 then codes "1" ++ (65 + port) ∷ []
    else if nat_lt port 22 then codes "4" ++ (65 + (port - 16)) ∷ []
    else if nat_lt port 26 then codes "8" ++ (65 + (port - 22)) ∷ []
    else if nat_lt port 28 then codes "16" ++ (65 + (port - 26)) ∷ []
    else codes "32A"

-- the identifiers of the ports in a source text, in order: `XS1_PORT_` and the port's name
unfoldable pub identifiers : List (List ℕ)
identifiers =
    codes "XS1_PORT_1A" ∷ codes "XS1_PORT_1B" ∷ codes "XS1_PORT_1C" ∷ codes "XS1_PORT_1D" ∷ codes "XS1_PORT_1E" ∷ codes "XS1_PORT_1F"
    ∷ codes "XS1_PORT_1G" ∷ codes "XS1_PORT_1H" ∷ codes "XS1_PORT_1I" ∷ codes "XS1_PORT_1J" ∷ codes "XS1_PORT_1K" ∷ codes "XS1_PORT_1L"
    ∷ codes "XS1_PORT_1M" ∷ codes "XS1_PORT_1N" ∷ codes "XS1_PORT_1O" ∷ codes "XS1_PORT_1P" ∷ codes "XS1_PORT_4A" ∷ codes "XS1_PORT_4B"
    ∷ codes "XS1_PORT_4C" ∷ codes "XS1_PORT_4D" ∷ codes "XS1_PORT_4E" ∷ codes "XS1_PORT_4F" ∷ codes "XS1_PORT_8A" ∷ codes "XS1_PORT_8B"
    ∷ codes "XS1_PORT_8C" ∷ codes "XS1_PORT_8D" ∷ codes "XS1_PORT_16A" ∷ codes "XS1_PORT_16B" ∷ codes "XS1_PORT_32A" ∷ []
