-- The ports as they start.
use Rattle.std.proofs.Common.{◌≡◌, suc, List, [], ◌∷◌, ◌++◌, length, refl, ap}
use Rattle.xs_instr.specs.declared.image.PortDecl.{PortDecl}
use Rattle.xs_instr.specs.Machine.{boot_port, boot_ports}

-- one port more
pub boot_ports_more : (ds : List PortDecl) (d : PortDecl) → boot_ports ds ++ boot_port d ∷ [] ≡ boot_ports (ds ++ d ∷ [])
boot_ports_more [] d = refl
boot_ports_more (x ∷ ds) d = ap (λ ports. boot_port x ∷ ports) (boot_ports_more ds d)

-- a port for each
pub length-boot_ports : (ds : List PortDecl) → length (boot_ports ds) ≡ length ds
length-boot_ports [] = refl
length-boot_ports (d ∷ ds) = ap suc (length-boot_ports ds)
