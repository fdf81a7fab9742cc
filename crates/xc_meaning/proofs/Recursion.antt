-- The proof that calls end: in a program that breaks no rule of names, types and shapes no chain of calls is longer than there are
-- functions. A call in a body stands among the marks of its function and is a site of a call, so its name means a function, and
-- the one that is found by that name; so the call is an edge of the graph of calls. No function reaches itself, so each further call
-- of a chain reaches one function less.
pub mod Scopes
pub mod Items
pub mod Uses
pub mod Walk
pub mod Places
pub mod Calls
pub mod End
pub mod Typed
