pub mod Hmac
pub mod Hkdf
