-- Places   where the next byte goes once something was put
pub mod Places
