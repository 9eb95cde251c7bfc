mod Actions
mod Reading
mod Forms
