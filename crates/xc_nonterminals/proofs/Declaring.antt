-- Ports, heads of functions, parameters and declarations.
pub mod Params
pub mod ParamRows
pub mod Declarators
pub mod DeclaredRows
pub mod Cores
pub mod ItemHeads
pub mod PortParts
